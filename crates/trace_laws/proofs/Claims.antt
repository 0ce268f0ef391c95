-- The proofs of the statements in specs/Claims.antt, each under its statement's name.
use Prim.Native.Nat.{ℕ, zero, suc, ◌+◌, ◌*◌, ◌-◌, ◌≤◌, ◌<◌}
use mathlib.Core.Path.{◌≡◌, refl, sym, ap, ◌∙◌}
use mathlib.Core.List.{List, [], ◌∷◌, ◌++◌}
use mathlib.Core.Bool.{Bool, true, false, cond}
use native.Mathlib.Nat.{add-zero, add-suc, le_refl}
use native.Mathlib.Omega.{arith}
use lib.ListN.{length, get_or}
use lib.Dec.{leb, eqb}
use borrow.Author.Tests.{le-leb, lt-leb, eq-eqb, ne_eqb}
use Rattle.lists.specs.Bytes.{Bytes}
use Rattle.lists.specs.Rows.{rows}
use Rattle.lists.proofs.Cond.{if-true, if-false, either}
use Rattle.lists.proofs.Cuts.{cut-length}
use Rattle.lists.proofs.Tab.{tab-ext, get_or-tab}
use Rattle.reply.specs.Reply.{is_done, reply_number}
use Rattle.reply.specs.First.{first_of, first_hit}
use Rattle.reply.specs.declared.Reply.{Reply}
use Rattle.reply.specs.declared.Reply.TheVariants.{Done, NotLawful}
use Rattle.reply.proofs.Claims.{number_tells}
use Rattle.reply.proofs.Done.{is-done}
use Rattle.reply.proofs.Order.{first_done, last_of, hit_later, hit-early}
use Rattle.state.specs.declared.State.{State}
use Rattle.state.specs.Lawful.{lawful_reply}
use Rattle.frame.proofs.Claims.{frame_lawful}
use Rattle.surface.specs.Lines.{numbered}
use Rattle.surface.specs.declared.lines.LineNumber.{LineNumber}
use Rattle.register_laws.proofs.Calls.{write-row, port-row}
use Rattle.record_layout.specs.Record.{read_record}
use Rattle.line_replies.specs.Replies.{line_reply, lengths_reply, state_reply, draw_reply, drawn_if}
use Rattle.line_replies.proofs.Exits.{drawn, left}
use Rattle.line.specs.Lines.{drawn_line}
use Rattle.lent_laws.proofs.NotFour.{record-not-four}
use Rattle.trace_form.specs.Entries.{entry_count, line_at}
use Rattle.trace_form.specs.Judged.{rising, trace_reply}
use Rattle.trace_runs.specs.Runs.{Run, applied, begun, through, entries_by, after}
use Rattle.trace_runs.proofs.Through.{rises, same-due, due_below}
use Rattle.trace.specs.declared.alone.Traced.{Traced}
use Rattle.trace_replies.specs.Replies.{asked_reply, run_reply}
use Rattle.trace_replies.specs.Claims.{NoFour}
use Rattle.trace_replies.proofs.Asked.{MetWhole, whole-met}
use Rattle.trace_replies.proofs.Claims.{no_four}
use Rattle.trace.specs.Lines.{run_dots, run_traced, untried, traced_answer, traced_dots}
use Rattle.trace.specs.Carried.{line_of, carried_line, carried_reply, carried_dots, carried_replies, carried_places}
use Rattle.trace.proofs.Kept.{after_kept}
use Rattle.trace.proofs.Sound.{sound}
use Rattle.trace_laws.specs.Cut.{cut}
use Rattle.trace_laws.specs.Claims.{EntriesWrite, CarriedAlong, CarriedAlone, RefusedStays, PlaceOfRefused, NoEntries, CutTrace, LawfulAlong, FourAtStart}
use Rattle.trace_laws.proofs.Along.{one_more, refused-run, done-place}
use Rattle.trace_laws.proofs.Start.{asked-four, whole_four}
use Rattle.trace_laws.proofs.Cut as cuts

-- ---- entries

pub entries_write : EntriesWrite
unfolding applied
entries_write = record {
  registers = λ s e h k. if-true (eqb e.kind 0) _ _ (eq-eqb e.kind 0 k) ∙ sym (write-row s e.number e.value h);
  ports = λ s e h k. if-false (eqb e.kind 0) _ _ (ne_eqb e.kind 0 (λ z. omega (arith, k, z))) ∙ sym (port-row s _ e.value h);
}

-- stamped 0 or less is stamped 0
at_zero : (l : ℕ) → leb l 0 ≡ eqb l 0
at_zero zero = refl
at_zero (suc l) = lt-leb (suc l) 0 (omega arith) ∙ sym (ne_eqb (suc l) 0 (λ q. omega (arith, q)))

pub carried_along : CarriedAlong
unfolding CarriedAlong after
carried_along s t e = (
  same-due (λ l. leb l 0) (λ l. eqb l 0) t t (entry_count t) (begun s) (λ i l. refl) (λ i l. at_zero (line_at t i)),
  λ L. one_more t (rises t e) L (entry_count t) (le_refl (entry_count t)) (begun s),
)

-- ---- after a refused entry

refused-on : (s : State) (t : List ℕ) (L k : ℕ) → rising t ≡ true → is_done (after s t L).reply ≡ false → after s t (L + k) ≡ after s t L
unfolding CarriedAlong
refused-on s t L zero e h = ap (after s t) (add-zero L)
refused-on s t L (suc k) e h =
    ap (after s t) (add-suc L k) ∙ (carried_along s t e).1 (L + k) ∙ ap (entries_by (λ l. eqb l (suc (L + k))) t) (refused-on s t L k e h)
    ∙ refused-run (λ l. eqb l (suc (L + k))) t (entry_count t) (after s t L) h

pub refused_stays : RefusedStays
unfolding RefusedStays run_reply first_of
refused_stays s t L k e h =
    ap run_traced (refused-on s t L k e h) ∙ ap (λ (q : Reply). record { reply = q; place = (after s t L).place }) (if-false (is_done (after s t L).reply) _ (after s t L).reply h)

pub place_of_refused : PlaceOfRefused
unfolding PlaceOfRefused after
place_of_refused s t L = done-place (λ l. leb l L) t (entry_count t) (begun s) (λ d. refl)

-- ---- each line asked for alone

-- lines that are the same one by one
rows_ext : (f g : ℕ → List ℕ) (n : ℕ) → ((k : ℕ) → k < n → f k ≡ g k) → rows f n ≡ rows g n
unfolding rows
rows_ext f g zero e = refl
rows_ext f g (suc n) e = ap (λ (l : List ℕ). l ++ f n) (rows_ext f g n (λ k l. e k (omega (arith, l)))) ∙ ap (λ (l : List ℕ). rows g n ++ l) (e n (le_refl (suc n)))

-- what the whole call has met, the call of each line has met
line-asked : (L : ℕ) (own : Reply) (t : List ℕ) (ula tile dots replies places : ℕ) (out : List ℕ) → L < 256 → MetWhole ula tile dots replies places own t
    → length out ≡ 640 → asked_reply (numbered L) ula tile (length out) own t ≡ Done
unfolding asked_reply line_reply lengths_reply first_hit first_of
line-asked L own t ula tile dots replies places out w m e = rw (le-leb L 255 (omega (arith, w)), m.ula, m.tile, e, m.own, m.trace)

module _ (own : Reply) (s : State) (t ula tile dots : List ℕ) (replies places : ℕ) (m : MetWhole (length ula) (length tile) (length dots) replies places own t)
    (L : ℕ) (w : L < 256) where
  asked : asked_reply (numbered L) (length ula) (length tile) (length (line_of L dots)) own t ≡ Done
  asked = line-asked L own t _ _ _ _ _ (line_of L dots) w m (cut-length dots (L * 640) 640 (omega (arith, m.dots, w)))

  line-alone : carried_line s t ula tile dots L ≡ traced_dots own (numbered L) ula tile (line_of L dots) s t
  unfolding traced_dots
  line-alone = drawn _ _ _ _ _ refl (ap is_done asked) refl

  answer-alone : run_traced (after s t L) ≡ traced_answer own (numbered L) ula tile (line_of L dots) s t
  unfolding traced_answer
  answer-alone = sym (if-true _ _ _ (ap is_done asked))

pub carried_alone : CarriedAlone
unfolding CarriedAlone carried_dots carried_replies carried_places
carried_alone own s t ula tile dots replies places z =
    let m = whole-met (length ula) (length tile) (length dots) replies places own t z in (
      rows_ext _ _ 256 (line-alone own s t ula tile dots replies places m),
      tab-ext _ _ 256 (λ L w. ap (λ (x : Traced). reply_number x.reply) (answer-alone own s t ula tile dots replies places m L w)),
      tab-ext _ _ 256 (λ L w. ap (λ (x : Traced). x.place) (answer-alone own s t ula tile dots replies places m L w)),
    )

-- ---- a trace without entries

no-entries : (s : State) (t : List ℕ) (L : ℕ) → entry_count t ≡ 0 → after s t L ≡ begun s
unfolding after through
no-entries s t L e = ap (λ (n : ℕ). through (λ l. leb l L) t n (begun s)) e

module _ (line : LineNumber) (ula tile out : List ℕ) (s : State) (t : List ℕ) (z : trace_reply t ≡ Done) (e : entry_count t ≡ 0) where
  abbrev early : List Reply
  early = line_reply line ∷ lengths_reply (length ula) (length tile) (length out) ∷ lawful_reply s ∷ []

  abbrev state : Reply
  state = state_reply s.ula s.tiles s.palette s.ports

  -- a state that no entry changed is refused for itself alone
  begun-reply : run_reply (after s t line.0) ≡ state
  unfolding run_reply
  begun-reply = ap run_reply (no-entries s t line.0 e) ∙ first_done Done state refl

  abbrev asks : Reply
  asks = asked_reply line (length ula) (length tile) (length out) (lawful_reply s) t

  abbrev draws : Reply
  draws = draw_reply line (length ula) (length tile) (length out) s

  asked-early : asks ≡ first_hit early
  unfolding asked_reply first_hit first_of
  asked-early = ap (λ (r : Reply). first_hit (line_reply line ∷ lengths_reply (length ula) (length tile) (length out) ∷ lawful_reply s ∷ r ∷ [])) z

  -- where nothing refuses early, the drawer answers what the state is refused for
  draws-state : is_done (first_hit early) ≡ true → draws ≡ state
  unfolding draw_reply first_hit
  draws-state d = hit_later early (state ∷ []) (is-done (first_hit early) d) ∙ last_of state

  draws-early : is_done (first_hit early) ≡ false → draws ≡ first_hit early
  unfolding draw_reply
  draws-early d = hit-early early (state ∷ []) d

  answered : (b : Bool) → is_done (first_hit early) ≡ b → traced_answer (lawful_reply s) line ula tile out s t ≡ untried draws
  unfolding traced_answer
  answered true d =
      if-true (is_done asks) _ _ (ap is_done asked-early ∙ d) ∙ ap (λ (q : Reply). record { reply = q; place = (after s t line.0).place }) (begun-reply ∙ sym (draws-state d))
      ∙ ap (λ (r : Run). record { reply = draws; place = r.place }) (no-entries s t line.0 e)
  answered false d = if-false (is_done asks) _ _ (ap is_done asked-early ∙ d) ∙ ap untried (asked-early ∙ sym (draws-early d))

  dotted : (b : Bool) → is_done (first_hit early) ≡ b → traced_dots (lawful_reply s) line ula tile out s t ≡ drawn_if draws (drawn_line s ula tile line) out
  unfolding traced_dots run_dots
  dotted true d =
      sym (drawn asks asks _ _ out refl (ap is_done asked-early ∙ d) refl) ∙ ap (λ (q : Reply). drawn_if q (drawn_line (after s t line.0).state ula tile line) out) (begun-reply ∙ sym (draws-state d))
      ∙ ap (λ (r : Run). drawn_if draws (drawn_line r.state ula tile line) out) (no-entries s t line.0 e)
  dotted false d =
      sym (left asks asks _ out refl (ap is_done asked-early ∙ d)) ∙ left (first_hit early) draws (drawn_line s ula tile line) out (sym (draws-early d)) d

pub no_entries : NoEntries
unfolding NoEntries
no_entries line ula tile out s t z e =
    let b = is_done (first_hit (early line ula tile out s t z e)) in (answered line ula tile out s t z e b refl, dotted line ula tile out s t z e b refl)

-- ---- a cut trace

cut-after : (s : State) (t : List ℕ) (n L : ℕ) → Bytes t → trace_reply t ≡ Done → n ≤ entry_count t → ((i : ℕ) → n ≤ i → i < entry_count t → L < line_at t i)
    → after s (cut t n) L ≡ after s t L
unfolding after
cut-after s t n L y z h late =
    let l = (sound t y z).long in
    let k = entry_count t - n in
    let m : entry_count t ≡ n + k = omega (arith, h) in
    ap (λ (j : ℕ). through (λ l. leb l L) (cut t n) j (begun s)) (cuts.cut-count t n l h)
    ∙ same-due (λ l. leb l L) (λ l. leb l L) (cut t n) t n (begun s) (cuts.cut-entry t n l h) (λ i w. refl)
    ∙ sym (due_below (λ l. leb l L) t n k (begun s) (λ i a b. lt-leb (line_at t i) L (late i a (omega (arith, b, m)))))
    ∙ sym (ap (λ (j : ℕ). through (λ l. leb l L) t j (begun s)) m)

cut-asked : (line : LineNumber) (ula tile out : ℕ) (own : Reply) (t : List ℕ) (n : ℕ) → trace_reply t ≡ Done → n ≤ entry_count t
    → asked_reply line ula tile out own (cut t n) ≡ asked_reply line ula tile out own t
unfolding asked_reply
cut-asked line ula tile out own t n z h =
    ap (λ (r : Reply). first_hit (line_reply line ∷ lengths_reply ula tile out ∷ own ∷ r ∷ [])) (cuts.cut-done t n h z ∙ sym z)

pub cut_trace : CutTrace
unfolding CutTrace traced_answer traced_dots
cut_trace own line ula tile out s t n y z h late =
    let q = cut-asked line (length ula) (length tile) (length out) own t n z h in
    let r = cut-after s t n line.0 y z h late in (
      ap (λ (x : Reply). cond (is_done x) (run_traced (after s (cut t n) line.0)) (untried x)) q
          ∙ ap (λ (x : Run). cond (is_done (asked_reply line (length ula) (length tile) (length out) own t)) (run_traced x) (untried (asked_reply line (length ula) (length tile) (length out) own t))) r,
      ap (λ (x : Reply). drawn_if x (run_dots (after s (cut t n) line.0) ula tile line out) out) q
          ∙ ap (λ (x : Run). drawn_if (asked_reply line (length ula) (length tile) (length out) own t) (run_dots x ula tile line out) out) r,
    )

-- ---- lawful along, and 4 at the start alone

pub lawful_along : LawfulAlong
unfolding LawfulAlong
lawful_along s t L y z h =
    let k = after_kept s t L y (h, z) in (k, frame_lawful (after s t L).state k.0 k.1)

-- a line alone is answered what is asked before its entries, or what it is by its run
alone-four : (own : Reply) (line : LineNumber) (ula tile out : List ℕ) (s : State) (t : List ℕ) → (traced_answer own line ula tile out s t).reply ≡ NotLawful → own ≡ NotLawful
unfolding traced_answer NoFour
alone-four own line ula tile out s t =
    let q = asked_reply line (length ula) (length tile) (length out) own t in
    either (λ (x : Traced). x.reply ≡ NotLawful → own ≡ NotLawful) (is_done q) (run_traced (after s t line.0)) (untried q) (λ e. absurd (no_four s t line.0 e))
    (asked-four line (length ula) (length tile) (length out) own t)

carried-four : (s : State) (t : List ℕ) (L : ℕ) → L < 256 → get_or (carried_replies s t) L 0 ≡ 4 → ⊥
unfolding carried_replies NoFour
carried-four s t L w e = no_four s t L (number_tells (run_reply (after s t L)) NotLawful (sym (get_or-tab (carried_reply s t) 256 L w) ∙ e))

pub four_at_start : FourAtStart
four_at_start = record {
  alone = alone-four;
  whole = λ own ula tile dots replies places t. whole_four ula tile dots replies places own t;
  carried = carried-four;
  record-alone = λ b line ula tile out t e. record-not-four b (alone-four (read_record b).reply line ula tile out (read_record b).state t e);
  record-whole = λ b ula tile dots replies places t e. record-not-four b (whole_four ula tile dots replies places (read_record b).reply t e);
}
