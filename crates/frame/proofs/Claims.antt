-- The claims on frames. A frame changes nothing that `lawful_state` looks at, so n frames of a lawful state give its frame number
-- plus n, mod 256.
use Rattle.std.proofs.Common.{◌≡◌, ℕ, zero, suc, ◌+◌, ◌%◌, ◌<◌, true, ap, ◌∙◌, arith}
use Rattle.state.specs.declared.State.{State}
use Rattle.state.specs.Lawful.{lawful_state}
use Rattle.state.specs.With.{with_frame}
use Rattle.state.specs.Answer.{done}
use Rattle.state.proofs.Typed.{with-frame}
use Rattle.frame.specs.Frame.{advanced, next_frame, frames_on}
use Rattle.frame.specs.Claims.{FrameLawful, FramesReturn}

pub frame-done : (s : State) → lawful_state s ≡ true → next_frame s ≡ done (advanced s)
unfolding next_frame
frame-done s h = rw h

frame-kept : (s : State) (n : ℕ) → lawful_state s ≡ true → lawful_state (with_frame s n) ≡ true
unfolding lawful_state
frame-kept s n h = h

pub frame_lawful : FrameLawful
frame_lawful s h t =
    let n = (s.frame + 1) % 256 in
    rw (frame-done s h) (frame-kept s n h, with-frame s t n (omega arith))

frames-on : (n : ℕ) (s : State) → lawful_state s ≡ true → s.frame < 256 → frames_on n s ≡ with_frame s ((s.frame + n) % 256)
unfolding frames_on
frames-on zero s h l = let e : s.frame ≡ (s.frame + 0) % 256 = omega arith in ap (with_frame s) e
frames-on (suc n) s h l =
    let m : (s.frame + 1) % 256 < 256 = omega arith in
    let e : ((s.frame + 1) % 256 + n) % 256 ≡ (s.frame + suc n) % 256 = omega arith in
    rw (frame-done s h) (frames-on n (advanced s) (frame-kept s ((s.frame + 1) % 256) h) m ∙ ap (with_frame s) e)

pub frames_return : FramesReturn
frames_return s h l =
    let e : (s.frame + 256) % 256 ≡ s.frame = omega arith in
    frames-on 256 s h l ∙ ap (with_frame s) e
