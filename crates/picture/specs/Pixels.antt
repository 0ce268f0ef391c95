-- A line's pixels in a picture file: three bytes a dot, by the screen values.
use Rattle.std.specs.Prelude.{ℕ, ◌/◌, ◌%◌, List, Bool, cond, ◌&&◌, not, length, get_or, leb, eqb}
use Rattle.std.specs.Result.{result_unwrap_or}
use Rattle.lists.specs.Tab.{tab}
use Rattle.lists.specs.Search.{all}
use Rattle.reply.specs.declared.Reply.{Reply}
use Rattle.reply.specs.declared.Reply.TheVariants.{Done, BufferLength, OutOfBounds}
use Rattle.reply.specs.Reply.{reply_number}
use Rattle.colour.specs.Screen.{screen_answer}

-- dot k of a line is a colour, at most 511
abbrev pub is_colour : List ℕ → ℕ → Bool
is_colour dots k = leb (get_or dots k 0) 511

-- byte i of a screen value: red, green, blue
unfoldable pub channel : ℕ → ℕ → ℕ
channel value i = cond (eqb i 0) (value / 65536 % 256) (cond (eqb i 1) (value / 256 % 256) (value % 256))

-- byte k of a line's pixels: of a dot that is no colour, 0
abbrev pub pixel_byte : List ℕ → ℕ → ℕ
pixel_byte dots k = channel (result_unwrap_or (screen_answer (get_or dots (k / 3) 0)) 0) (k % 3)

-- 3 for a buffer of the wrong length, 10 for a number that is no colour
unfoldable pub pixels_reply : List ℕ → List ℕ → Reply
pixels_reply dots out =
    cond (not (eqb (length dots) 640 && eqb (length out) 1920)) BufferLength
    (cond (not (all (is_colour dots) 640)) OutOfBounds Done)

-- the lent buffer afterwards: the pixels, or as it was
unfoldable pub pixels_in : List ℕ → List ℕ → List ℕ
pixels_in dots out = cond (eqb (reply_number (pixels_reply dots out)) 0) (tab (pixel_byte dots) 1920) out
