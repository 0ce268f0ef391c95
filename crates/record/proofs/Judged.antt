-- The exits of reading: the state in bytes that pass their judgement `j`, and the reset state where it refuses them.
use mathlib.Core.Path.{◌≡◌, sym, ap, ap₂, ◌∙◌}
use mathlib.Core.List.{List}
use mathlib.Core.Bool.{true, false}
use Prim.Native.Nat.{ℕ}
use lib.ListN.{length}
use Rattle.lists.proofs.Cond.{if-true, if-false}
use Rattle.reply.specs.Reply.{is_done}
use Rattle.state.specs.declared.State.{State}
use Rattle.state.specs.Reset.{reset_state}
use Rattle.record_layout.specs.declared.Judgement.{Judgement}
use Rattle.record_layout.specs.declared.Version.{Version}
use Rattle.record_layout.specs.Record.{record_length, state_as, judged, read_with, read_as}
use Rattle.record_layout.proofs.Stages.{judged-done}
use Rattle.record_layout.proofs.RoundTrip.{long}

module _ (v : Version) (b : List ℕ) (j : Judgement) (h : j ≡ judged v b) where
  same-done : is_done (judged v b).reply ≡ is_done j.reply
  same-done = ap (λ (x : Judgement). is_done x.reply) (sym h)

  pub passed-long : is_done j.reply ≡ true → length b ≡ record_length v
  passed-long d = long v b (sym (judged-done v b) ∙ same-done ∙ d)

  pub passed-read : (s : State) → is_done j.reply ≡ true → s ≡ state_as v b → read_with j s ≡ read_as v b
  passed-read s d e = ap₂ read_with h (e ∙ sym (if-true (is_done (judged v b).reply) (state_as v b) reset_state (same-done ∙ d)))

  pub refused-read : (s : State) → is_done j.reply ≡ false → s ≡ reset_state → read_with j s ≡ read_as v b
  refused-read s d e = ap₂ read_with h (e ∙ sym (if-false (is_done (judged v b).reply) (state_as v b) reset_state (same-done ∙ d)))
