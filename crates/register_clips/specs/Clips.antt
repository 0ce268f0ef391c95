-- Rules 3.7 to 3.9: the two clips and their turns.
use Rattle.std.specs.Prelude.{ℕ, ◌+◌, ◌*◌, ◌/◌, ◌%◌, cond, List, get_or, set, leb, eqb}
use Rattle.state.specs.declared.State.{State}
use Rattle.state.specs.declared.Answer.{Answer}
use Rattle.state.specs.Answer.{done}
use Rattle.state.specs.Groups.{turns_with_ula, turns_with_tiles}
use Rattle.state.specs.With.{with_turns, with_ula_clip, with_tile_clip}
use Rattle.register_answers.specs.Answers.{if_fits}

-- the coordinate written next: a lawful turn itself, which is at most 3
abbrev pub coordinate : ℕ → ℕ
coordinate turn = turn % 4

-- four writes in turn, then the first again
abbrev pub next_turn : ℕ → ℕ
next_turn turn = (coordinate turn + 1) % 4

-- $1A: ULA clip X1, X2, Y1, Y2
abbrev pub ula_clip_written : State → ℕ → Answer
ula_clip_written s v =
    done (with_turns (with_ula_clip s (set s.ulaclip (coordinate s.turns.ula) v)) (turns_with_ula s.turns (next_turn s.turns.ula)))

-- $1B: tilemap clip
abbrev pub tile_clip_written : State → ℕ → Answer
tile_clip_written s v =
    done (with_turns (with_tile_clip s (set s.tileclip (coordinate s.turns.tiles) v)) (turns_with_tiles s.turns (next_turn s.turns.tiles)))

-- a turn after a bit that restarts it where it is set
abbrev pub restarted : ℕ → ℕ → ℕ
restarted bit turn = cond (eqb bit 1) 0 turn

-- $1C: bit 3 and bit 2 restart the tilemap and ULA turns; bits 1 and 0 do nothing; bits 7-4 are zero
abbrev pub turns_written : State → ℕ → Answer
turns_written s v =
    if_fits (leb v 15) (with_turns s (turns_with_tiles (turns_with_ula s.turns (restarted (v / 4 % 2) s.turns.ula)) (restarted (v / 8 % 2) s.turns.tiles))) s

-- a clip read gives the coordinate next to be written
abbrev pub clip_next : List ℕ → ℕ → ℕ
clip_next clip turn = get_or clip (coordinate turn) 0

-- $1C reads as tilemap turn × 64 + ULA turn
abbrev pub turns_read : State → ℕ
turns_read s = coordinate s.turns.tiles * 64 + coordinate s.turns.ula
