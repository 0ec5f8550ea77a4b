-- A packet's run and its character, as their calls answer them. Assumes nothing.
use Rattle.std.proofs.Common.{◌≡◌, ℕ, ◌+◌, List, [], get_or, take, ℤ, Some, None, Ok, Err, Option, Result, sym, refl, subst}
use Rattle.numbers.specs.FixWords.{scaled}
use Rattle.shelf.specs.declared.asked.Asked.{Asked}
use Rattle.shelf.specs.Answers.{Answered}
use Rattle.shelf.specs.Meaning.{Meaning}
use Rattle.shelf.specs.Outcomes.{Outcome, well, fault, ends, faulty, bind, link}
use Rattle.shelf.specs.declared.marks.Link.{Link}
use Rattle.shelf.specs.declared.marks.Mark.{Mark}
use Rattle.shelf.specs.declared.refusals.Cause.{Cause}
use Rattle.shelf.specs.declared.refusals.Cause.TheVariants.{NoCode, BadSize}
use Rattle.shelf.specs.declared.refusals.Refusal.{Refusal}
use Rattle.shelf.specs.declared.refusals.Refusal.TheVariants.{Fault}
use Rattle.shelf.proofs.Compose.{refused, then_silent}
use Rattle.shelf.specs.Served.{silent}
use Rattle.machine.specs.declared.registers.Chosen.{Chosen}
use Rattle.machine.specs.Runs.{run_from}
use Rattle.machine.specs.Steps.{State}
use Rattle.machine.specs.Views.{ending_of}
use Rattle.machine.proofs.Turning.{PassedOn, own_fault}
use Rattle.vf.specs.declared.entries.Packet.{Packet}
use Rattle.vf.specs.Fonts.{VfFont}
use Rattle.expansion.specs.Selecting.{first_font}
use Rattle.expansion.specs.Expanding.{link_of, packet_world, start_at, packet_run, wide_run, expanded_by, expanded}

module _ (m : Meaning) (f : VfFont) (file : List ℕ) (c : Asked) where
  abbrev onwards : Packet → Option Chosen → Outcome (Unit {0})
  onwards p font = run_from (packet_world m f c) (take (p.start + p.length) file) p.start (start_at c font)

  abbrev by : Packet → Result (Option Chosen) Cause → Outcome (Unit {0})
  by p first = bind (link (link_of c p.start) (ends [] (ending_of first))) (onwards p)

  -- its first font is selected, and all else is the machine's
  pub from_first : (chain chain' : List Link) (marks marks' : List Mark) (p : Packet) (font : Option Chosen) (bytes : List ℕ) (st : State) (r : Result (ℕ × Unit {0}) Refusal) → Ok font ≡ first_font f c.size → bytes ≡ take (p.start + p.length) file → st ≡ start_at c font → Answered (run_from (packet_world m f c) bytes p.start st) chain chain' marks marks' r → Answered (packet_run m f file c p) chain chain' marks marks' r
  from_first chain chain' marks marks' p font bytes st r first whole start a =
      let b = subst (λ x. Answered (run_from (packet_world m f c) x p.start st) chain chain' marks marks' r) whole a in
      let d = subst (λ x. Answered (run_from (packet_world m f c) (take (p.start + p.length) file) p.start x) chain chain' marks marks' r) start b in
      subst (λ x. Answered (by p x) chain chain' marks marks' r) first d

  -- its first font cannot be had
  pub no-first : (chain chain' : List Link) (marks : List Mark) (p : Packet) (k : Cause) (r : Refusal) → Err k ≡ first_font f c.size → PassedOn (link_of c p.start) (Fault k 0) r chain chain' → Answered (packet_run m f file c p) chain chain' marks marks (Err r)
  no-first chain chain' marks p k r first q =
      let o : Outcome (Option Chosen) = link (link_of c p.start) (faulty k) in
      let a : Answered o chain chain' marks marks (Err r) = own_fault (link_of c p.start) k r chain chain' marks q in
      subst (λ x. Answered (by p x) chain chain' marks marks (Err r)) first (refused o.marks o.ending (onwards p) chain chain' marks marks r a)

  pub no-packet : (chain : List Link) (marks : List Mark) → None ≡ get_or f.packets c.code None → Answered (expanded m f file c) chain chain marks marks (Err (Fault NoCode 0))
  unfolding expanded
  no-packet chain marks none = subst (λ x. Answered (expanded_by m f file c x) chain chain marks marks (Err (Fault NoCode 0))) none (silent (fault NoCode []) chain marks)

  module _ (p : Packet) (is : Some p ≡ get_or f.packets c.code None) where
    pub no_width : (chain : List Link) (marks : List Mark) → None ≡ scaled c.size p.width → Answered (expanded m f file c) chain chain marks marks (Err (Fault BadSize 0))
    unfolding expanded
    no_width chain marks none =
        subst (λ x. Answered (expanded_by m f file c x) chain chain marks marks (Err (Fault BadSize 0))) is
        (subst (λ x. Answered (wide_run m f file c p x) chain chain marks marks (Err (Fault BadSize 0))) none (silent (fault BadSize []) chain marks))

    module _ (width : ℤ) (wide : Some width ≡ scaled c.size p.width) (chain chain' : List Link) (marks marks' : List Mark) where
      as_wide : (r : Result (ℕ × ℤ) Refusal) → Answered (wide_run m f file c p (Some width)) chain chain' marks marks' r → Answered (expanded m f file c) chain chain' marks marks' r
      unfolding expanded
      as_wide r a =
          subst (λ x. Answered (expanded_by m f file c x) chain chain' marks marks' r) is
          (subst (λ x. Answered (wide_run m f file c p x) chain chain' marks marks' r) wide a)

      -- the width that is answered is that of the packet
      pub run-well : (n : ℕ) (w : ℤ) → w ≡ width → Answered (packet_run m f file c p) chain chain' marks marks' (Ok (n, tt)) → Answered (expanded m f file c) chain chain' marks marks' (Ok (n, w))
      run-well n w e a =
          let o = packet_run m f file c p in
          subst (λ (x : ℤ). Answered (expanded m f file c) chain chain' marks marks' (Ok (n, x))) (sym e)
          (as_wide (Ok (n, width)) (then_silent o.marks o.ending (λ u. ends [] (well width)) chain chain' marks marks' n tt (well width) a refl))

      pub run-refused : (e : Refusal) → Answered (packet_run m f file c p) chain chain' marks marks' (Err e) → Answered (expanded m f file c) chain chain' marks marks' (Err e)
      run-refused e a =
          let o = packet_run m f file c p in
          as_wide (Err e) (refused o.marks o.ending (λ u. ends [] (well width)) chain chain' marks marks' e a)
