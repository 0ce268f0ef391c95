-- Rules 3.30 and 3.31 together: what no single call states of frames.
use Rattle.std.specs.Prelude.{◌≡◌, ◌<◌, true}
use Rattle.state.specs.declared.State.{State}
use Rattle.state.specs.Lawful.{lawful_state}
use Rattle.state.specs.Typed.{Typed}
use Rattle.frame.specs.Frame.{next_frame, frames_on}

-- the next frame of a lawful and typed state is lawful and typed
abbrev pub FrameLawful : Type 0
FrameLawful = (s : State) → lawful_state s ≡ true → Typed s → (lawful_state (next_frame s).state ≡ true) × Typed (next_frame s).state

-- 256 frames bring a lawful state back; its frame number is a byte
abbrev pub FramesReturn : Type 0
FramesReturn = (s : State) → lawful_state s ≡ true → s.frame < 256 → frames_on 256 s ≡ s
