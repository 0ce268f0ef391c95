-- The three buffers filled up to a line, and with one line more: the invariant of the carried drawing.
use Prim.Native.Nat.{ℕ, ◌+◌, ◌*◌, ◌≤◌, ◌<◌}
use mathlib.Core.Path.{◌≡◌, refl, sym, ap, ◌∙◌}
use mathlib.Core.List.{List, ◌++◌}
use native.Mathlib.Omega.{arith}
use lib.ListN.{length, take, drop, set, length-set}
use Rattle.lists.specs.Tab.{tab}
use Rattle.lists.specs.Rows.{rows}
use Rattle.lists.proofs.Cond.{either}
use Rattle.lists.proofs.Cuts.{cut-length}
use Rattle.lists.proofs.Placed.{length-placed, placed-lent}
use Rattle.lists.proofs.Rows.{rows_none, rows_more, rows-rest, rows-done}
use Rattle.lists.proofs.Tab.{tab-none, tab-step, tab-done, length-tab}
use Rattle.reply.specs.Reply.{reply_number, is_done}
use Rattle.reply.specs.declared.Reply.{Reply}
use Rattle.state.specs.declared.State.{State}
use Rattle.surface.specs.Lines.{numbered}
use Rattle.surface.specs.declared.lines.LineNumber.{LineNumber}
use Rattle.line_replies.specs.Replies.{drawn_if}
use Rattle.line.specs.Lines.{line_dot, drawn_line}
use Rattle.trace_runs.specs.Runs.{Run, after}
use Rattle.trace_replies.specs.Replies.{run_reply}
use Rattle.trace.specs.Lines.{run_dots}
use Rattle.trace.specs.Carried.{line_of, carried_line, carried_reply, carried_place, carried_dots, carried_replies, carried_places}

-- a line is 640 numbers, drawn or left
pub dots-length : (r : Run) (ula tile : List ℕ) (line : LineNumber) (out : List ℕ) → length out ≡ 640 → length (run_dots r ula tile line out) ≡ 640
unfolding run_dots drawn_if drawn_line
dots-length r ula tile line out e =
    either (λ l. length l ≡ 640) (is_done (run_reply r)) (tab (line_dot r.state ula tile line) 640) out (length-tab (line_dot r.state ula tile line) 640) e

pub record Filled (s : State) (t ula tile dots₀ dots replies places : List ℕ) (L : ℕ) : Type 0 where
  pub dots_long : length dots ≡ 163840
  pub dots_made : take (L * 640) dots ≡ rows (carried_line s t ula tile dots₀) L
  pub dots_left : drop (L * 640) dots ≡ drop (L * 640) dots₀
  pub replies_long : length replies ≡ 256
  pub replies_made : take L replies ≡ tab (carried_reply s t) L
  pub places_long : length places ≡ 256
  pub places_made : take L places ≡ tab (carried_place s t) L

module _ (s : State) (t ula tile dots₀ : List ℕ) where
  pub fill_none : (replies places : List ℕ) → length dots₀ ≡ 163840 → length replies ≡ 256 → length places ≡ 256
      → Filled s t ula tile dots₀ dots₀ replies places 0
  fill_none replies places d r p = record {
    dots_long = d;
    dots_made = rows_none _;
    dots_left = refl;
    replies_long = r;
    replies_made = tab-none _;
    places_long = p;
    places_made = tab-none _;
  }

  -- line L is drawn by its own run, and told
  pub fill_more : (dots replies places : List ℕ) (L k : ℕ) → Filled s t ula tile dots₀ dots replies places L → L < 256 → k ≡ 640
      → (run : Run) (ys : List ℕ) (q : Reply) (n : ℕ) → run ≡ after s t L
      → ys ≡ run_dots run ula tile (numbered L) (take k (drop (L * 640) dots)) → q ≡ run_reply run → n ≡ reply_number q
      → Filled s t ula tile dots₀ (take (L * 640) dots ++ (ys ++ drop k (drop (L * 640) dots))) (set replies L n) (set places L run.place) (L + 1)
  fill_more dots replies places L k h w e run ys q n r y a b =
      let room : L * 640 + 640 ≤ length dots = omega (arith, h.dots_long, w) in
      let line : ys ≡ carried_line s t ula tile dots₀ L =
      y ∙ ap (λ (m : ℕ). run_dots run ula tile (numbered L) (take m (drop (L * 640) dots))) e
      ∙ ap (λ (x : List ℕ). run_dots run ula tile (numbered L) (take 640 x)) h.dots_left
      ∙ ap (λ (x : Run). run_dots x ula tile (numbered L) (line_of L dots₀)) r in
      let long : length ys ≡ 640 = ap length line ∙ dots-length (after s t L) ula tile (numbered L) (line_of L dots₀) (ap length (ap (take 640) (sym h.dots_left)) ∙ cut-length dots (L * 640) 640 room) in
      let told : n ≡ carried_reply s t L = b ∙ ap reply_number (a ∙ ap run_reply r) in
      let put = placed-lent dots ys (L * 640) k (long ∙ sym e) in
      rw put (record {
        dots_long = length-placed dots ys (L * 640) (omega (arith, room, long)) ∙ h.dots_long;
        dots_made = rows_more dots ys L 640 room long (carried_line s t ula tile dots₀) h.dots_made line;
        dots_left = rows-rest dots ys L 640 room long dots₀ h.dots_left;
        replies_long = length-set replies L n ∙ h.replies_long;
        replies_made = tab-step (carried_reply s t) replies L n (omega (arith, h.replies_long, w)) h.replies_made told;
        places_long = length-set places L run.place ∙ h.places_long;
        places_made = tab-step (carried_place s t) places L run.place (omega (arith, h.places_long, w)) h.places_made (ap (λ (x : Run). x.place) r);
      })

  pub fill_done : (dots replies places : List ℕ) → Filled s t ula tile dots₀ dots replies places 256
      → (dots ≡ carried_dots s t ula tile dots₀) × (replies ≡ carried_replies s t) × (places ≡ carried_places s t)
  unfolding carried_dots carried_replies carried_places
  fill_done dots replies places h =
      (rows-done _ dots 256 640 h.dots_long h.dots_made, tab-done _ replies 256 h.replies_long h.replies_made, tab-done _ places 256 h.places_long h.places_made)
