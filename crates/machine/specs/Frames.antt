-- Saved frames, the last one first.
use Rattle.std.specs.Prelude.{Bool, true, false, cond, List, [], ◌∷◌, reverse, length, take, Some, None, Option, nat_lt}
use Rattle.std.specs.Option.{unwrap_or}
use Rattle.machine.specs.declared.frames.Frames.{Frames}
use Rattle.machine.specs.declared.registers.Registers.{Registers}

abbrev pub frames_of : Frames → List Registers
frames_of f = reverse (take f.depth (unwrap_or f.saved []))

-- whether a frame was saved, and the frames then: at most 64
abbrev pub pushed : Registers → List Registers → Bool × List Registers
pushed r fs = cond (nat_lt (length fs) 64) (true, r ∷ fs) (false, fs)

-- the frame that was saved last, and the others
abbrev pub popped : List Registers → Option Registers × List Registers
popped [] = (None, [])
popped (f ∷ fs) = (Some f, fs)
