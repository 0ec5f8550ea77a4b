-- What one command does, to the registers, the font and the frames, and with which marks.
use Rattle.std.specs.Prelude.{ℕ, Bool, true, false, cond, ◌&&◌, List, [], ◌∷◌, length, ℤ, pos, negsuc, Some, None, Ok, Err, Option, Result, ◌==◌, nat_lt}
use Rattle.numbers.specs.Lengths.{moved_to}
use Rattle.shelf.specs.declared.marks.Link.{Link}
use Rattle.shelf.specs.declared.marks.Mark.TheVariants.{Rule}
use Rattle.shelf.specs.declared.refusals.Cause.{Cause}
use Rattle.shelf.specs.declared.refusals.Cause.TheVariants.{NotAllowed, Frames, NoFont, NoCode, OutOfRange, BadSize}
use Rattle.shelf.specs.Meaning.{Meaning, called, point_at}
use Rattle.shelf.specs.Outcomes.{Outcome, Ending, well, fault, ends, faulty, bind}
use Rattle.commands.specs.Commands.{Cmd, set, put, set_rule, put_rule, nop, eop, push, pop, right, w0, w1, x0, x1, down, y0, y1, z0, z1, fnt, xxx, fnt_def, undefined}
use Rattle.machine.specs.declared.registers.Registers.{Registers}
use Rattle.machine.specs.declared.registers.Chosen.{Chosen}
use Rattle.machine.specs.declared.registers.Spacing.{Spacing}
use Rattle.machine.specs.declared.registers.Spacing.TheVariants.{W, X, Y, Z}
use Rattle.machine.specs.Frames.{pushed, popped}

-- what differs between a page and a packet, and what both run over
pub record World : Type 0 where
  -- the shelf below
  pub below : Meaning
  -- a length parameter or a rule's side as a length; none where it is no fix_word
  pub measure : ℤ → Option ℤ
  -- what a font number selects
  pub choose : ℕ → Result Chosen Cause
  -- a page has eop and definitions, and ends by eop; a packet ends with its bytes
  pub page : Bool
  -- the link of this page or packet at a place
  pub link_at : ℕ → Link

pub record State : Type 0 where
  pub at : Registers
  pub font : Option Chosen
  pub frames : List Registers

-- on with a state, or the end of a page
pub data Next : Type 0 where
  go : State → Next
  done : Next

abbrev pub with_at : State → Registers → State
with_at st r = record { at = r; font = st.font; frames = st.frames }

abbrev pub with_h : Registers → ℤ → Registers
with_h r h = record { h = h; v = r.v; w = r.w; x = r.x; y = r.y; z = r.z }

abbrev pub with_v : Registers → ℤ → Registers
with_v r v = record { h = r.h; v = v; w = r.w; x = r.x; y = r.y; z = r.z }

-- one of the four spacings set to a length
abbrev pub with_spacing : Spacing → Registers → ℤ → Registers
with_spacing W r l = record { h = r.h; v = r.v; w = l; x = r.x; y = r.y; z = r.z }
with_spacing X r l = record { h = r.h; v = r.v; w = r.w; x = l; y = r.y; z = r.z }
with_spacing Y r l = record { h = r.h; v = r.v; w = r.w; x = r.x; y = l; z = r.z }
with_spacing Z r l = record { h = r.h; v = r.v; w = r.w; x = r.x; y = r.y; z = l }

-- a position that was reached, or that it is out of range
abbrev pub arrived : (ℤ → Registers) → Option ℤ → Ending Registers
arrived to (Some a) = well (to a)
arrived to None = fault OutOfRange []

-- h or v moved by a length
abbrev pub across : Registers → ℤ → Ending Registers
across r b = arrived (with_h r) (moved_to r.h b)

abbrev pub downward : Registers → ℤ → Ending Registers
downward r b = arrived (with_v r) (moved_to r.v b)

-- a move by a spacing: w and x go across, y and z down
abbrev pub spaced : Spacing → Registers → Ending Registers
spaced W r = across r r.w
spaced X r = across r r.x
spaced Y r = downward r r.y
spaced Z r = downward r r.z

-- a parameter as a length, and what is done with it
abbrev pub measured : {W : Type 0} → Option ℤ → (ℤ → Ending W) → Ending W
measured (Some b) f = f b
measured None f = fault BadSize []

-- the moves; other commands are none
abbrev pub shifted : (ℤ → Option ℤ) → Cmd → Registers → Ending Registers
shifted m (right b) r = measured (m b) (across r)
shifted m w0 r = spaced W r
shifted m (w1 b) r = measured (m b) (λ l. spaced W (with_spacing W r l))
shifted m x0 r = spaced X r
shifted m (x1 b) r = measured (m b) (λ l. spaced X (with_spacing X r l))
shifted m (down b) r = measured (m b) (downward r)
shifted m y0 r = spaced Y r
shifted m (y1 b) r = measured (m b) (λ l. spaced Y (with_spacing Y r l))
shifted m z0 r = spaced Z r
shifted m (z1 b) r = measured (m b) (λ l. spaced Z (with_spacing Z r l))
shifted m (set c) r = fault NotAllowed []
shifted m (put c) r = fault NotAllowed []
shifted m (set_rule a b) r = fault NotAllowed []
shifted m (put_rule a b) r = fault NotAllowed []
shifted m nop r = fault NotAllowed []
shifted m eop r = fault NotAllowed []
shifted m push r = fault NotAllowed []
shifted m pop r = fault NotAllowed []
shifted m (fnt n) r = fault NotAllowed []
shifted m xxx r = fault NotAllowed []
shifted m (fnt_def d) r = fault NotAllowed []
shifted m undefined r = fault NotAllowed []

-- on with other registers
abbrev pub moved : State → Ending Registers → Ending Next
moved st (well r) = well (go (with_at st r))
moved st (fault k ch) = fault k ch

-- on after marks with a width: h grows by it
abbrev pub advanced : State → ℤ → Outcome Next
advanced st l = ends [] (moved st (across st.at l))

-- on after marks, h as it was
abbrev pub kept : State → ℤ → Outcome Next
kept st l = ends [] (well (go st))

-- a code of 0 to 255
abbrev pub byte_of : ℤ → Option ℕ
byte_of (pos n) = cond (nat_lt n 256) (Some n) None
byte_of (negsuc n) = None

abbrev pub coded : Meaning → Chosen → Registers → Option ℕ → Outcome ℤ
coded m f r (Some n) = called m f.font f.size n r.h r.v
coded m f r None = faulty NoCode

-- a character of the selected font
abbrev pub typeset : Meaning → Option Chosen → ℤ → Registers → Outcome ℤ
typeset m None c r = faulty NoFont
typeset m (Some f) c r = coded m f r (byte_of c)

-- a side that a rule can have: positive, and below 2^31 as every side in four signed bytes is
abbrev pub side : ℤ → Option ℕ
side (pos n) = cond (nat_lt 0 n && nat_lt n 2147483648) (Some n) None
side (negsuc n) = None

abbrev pub sides : Option ℕ → Option ℕ → Option (ℕ × ℕ)
sides (Some a) (Some b) = Some (a, b)
sides (Some a) None = None
sides None b = None

-- a rule from a start point, if both its sides are positive; it is as wide as it says in any case
abbrev pub drawn : Option (ℤ × ℤ) → Option (ℕ × ℕ) → ℤ → Outcome ℤ
drawn None s l = faulty OutOfRange
drawn (Some p) None l = ends [] (well l)
drawn (Some p) (Some s) l = ends (Rule s.0 s.1 p.0 p.1 ∷ []) (well l)

abbrev pub ruled : Option ℤ → Option ℤ → Registers → Outcome ℤ
ruled (Some a) (Some b) r = drawn (point_at r.h r.v) (sides (side a) (side b)) b
ruled (Some a) None r = faulty BadSize
ruled None b r = faulty BadSize

abbrev pub with_frames : State → Bool × List Registers → Ending Next
with_frames st (true, fs) = well (go (record { at = st.at; font = st.font; frames = fs }))
with_frames st (false, fs) = fault Frames []

-- the font is not in a frame
abbrev pub restored : State → Option Registers × List Registers → Ending Next
restored st (Some r, fs) = well (go (record { at = r; font = st.font; frames = fs }))
restored st (None, fs) = fault Frames []

abbrev pub selected : State → Result Chosen Cause → Ending Next
selected st (Ok f) = well (go (record { at = st.at; font = Some f; frames = st.frames }))
selected st (Err k) = fault k []

-- no frame may be left
abbrev pub at_end : {W : Type 0} → State → W → Ending W
at_end st e = cond (length st.frames == 0) (well e) (fault Frames [])

-- only in a page
abbrev pub in_page : Bool → Ending Next → Ending Next
in_page p e = cond p e (fault NotAllowed [])

-- the commands that make no mark
abbrev pub silently : World → Cmd → State → Ending Next
silently u nop st = well (go st)
silently u eop st = in_page u.page (at_end st done)
silently u push st = with_frames st (pushed st.at st.frames)
silently u pop st = restored st (popped st.frames)
silently u (right b) st = moved st (shifted u.measure (right b) st.at)
silently u w0 st = moved st (shifted u.measure w0 st.at)
silently u (w1 b) st = moved st (shifted u.measure (w1 b) st.at)
silently u x0 st = moved st (shifted u.measure x0 st.at)
silently u (x1 b) st = moved st (shifted u.measure (x1 b) st.at)
silently u (down b) st = moved st (shifted u.measure (down b) st.at)
silently u y0 st = moved st (shifted u.measure y0 st.at)
silently u (y1 b) st = moved st (shifted u.measure (y1 b) st.at)
silently u z0 st = moved st (shifted u.measure z0 st.at)
silently u (z1 b) st = moved st (shifted u.measure (z1 b) st.at)
silently u (fnt n) st = selected st (u.choose n)
silently u xxx st = well (go st)
silently u (fnt_def d) st = in_page u.page (well (go st))
silently u undefined st = fault NotAllowed []
silently u (set c) st = fault NotAllowed []
silently u (put c) st = fault NotAllowed []
silently u (set_rule a b) st = fault NotAllowed []
silently u (put_rule a b) st = fault NotAllowed []

-- one command
unfoldable pub exec : World → Cmd → State → Outcome Next
exec u (set c) st = bind (typeset u.below st.font c st.at) (advanced st)
exec u (put c) st = bind (typeset u.below st.font c st.at) (kept st)
exec u (set_rule a b) st = bind (ruled (u.measure a) (u.measure b) st.at) (advanced st)
exec u (put_rule a b) st = bind (ruled (u.measure a) (u.measure b) st.at) (kept st)
exec u nop st = ends [] (silently u nop st)
exec u eop st = ends [] (silently u eop st)
exec u push st = ends [] (silently u push st)
exec u pop st = ends [] (silently u pop st)
exec u (right b) st = ends [] (silently u (right b) st)
exec u w0 st = ends [] (silently u w0 st)
exec u (w1 b) st = ends [] (silently u (w1 b) st)
exec u x0 st = ends [] (silently u x0 st)
exec u (x1 b) st = ends [] (silently u (x1 b) st)
exec u (down b) st = ends [] (silently u (down b) st)
exec u y0 st = ends [] (silently u y0 st)
exec u (y1 b) st = ends [] (silently u (y1 b) st)
exec u z0 st = ends [] (silently u z0 st)
exec u (z1 b) st = ends [] (silently u (z1 b) st)
exec u (fnt n) st = ends [] (silently u (fnt n) st)
exec u xxx st = ends [] (silently u xxx st)
exec u (fnt_def d) st = ends [] (silently u (fnt_def d) st)
exec u undefined st = ends [] (silently u undefined st)
