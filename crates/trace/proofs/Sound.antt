-- A trace that is not refused is one that the carrying code can go by.
use Prim.Native.Nat.{ℕ, ◌+◌, ◌*◌, ◌-◌}
use mathlib.Core.Path.{◌≡◌, refl}
use mathlib.Core.List.{List}
use mathlib.Core.Bool.{cond, ◌&&◌}
use native.Mathlib.Omega.{arith}
use lib.ListN.{length, get_or}
use lib.Dec.{eqb, leb}
use borrow.Author.Tests.{eqb-true}
use Rattle.lists.specs.Bytes.{Bytes}
use Rattle.lists.proofs.Cond.{left-true, right-true}
use Rattle.reply.specs.declared.Reply.TheVariants.{Done, BadTrace, LinesFall}
use Rattle.reply.proofs.Done.{test-met}
use Rattle.trace_form.specs.Judged.{headed, all_known, rising, trace_reply}
use Rattle.trace_form.proofs.Judged.{long_enough}
use Rattle.trace_runs.specs.Bounds.{Sound}

pub sound : (t : List ℕ) → Bytes t → trace_reply t ≡ Done → Sound t
unfolding trace_reply headed
sound t b z =
    let h = test-met (headed t && all_known t) (cond (rising t) Done LinesFall) BadTrace refl z in
    let w = left-true (headed t) (all_known t) h.0 in
    let u = left-true _ (eqb (get_or t 2 0) 1) (left-true _ _ w) in
    let n = eqb-true (get_or t 0 0 * 256 + get_or t 1 0) (length t - 2) (right-true (leb 3 (length t)) _ u) in
    record {
      long = long_enough t w;
      short = omega (arith, n, b 0, b 1);
      rise = (test-met (rising t) Done LinesFall refl h.1).0;
      bytes = b;
    }
