-- A character that stands, one that goes too far, and one that is refused.
use Rattle.std.proofs.Common.{◌≡◌, ◌∙◌, ap, pos, subst, w64, SFits, to_z, of_z, rules}
use Rattle.std.proofs.lemmas.Int.{to_z-of_z}
use Rattle.shelf.specs.Answers.{Answered}
use Rattle.machine.specs.Steps.{across, typeset}
use Rattle.machine.proofs.Turning.{at-link}
use Rattle.machine.proofs.OneCharacter.{single-refused, single-too_far, single-well}
use Rattle.machine.proofs.level.Level.run_single.Goals as goal

pub returns-in-Ok-across : goal.returns-in-Ok-across
returns-in-Ok-across g c =
    let m = g.S.Shelf.means c.args.self.now.below.now in
    let f : SFits w64 c.in-Ok.width = search rules in
    let k : SFits w64 c.from.result = search rules in
    let code : to_z w64 (of_z w64 c.from.result) ≡ pos c.args.code = to_z-of_z w64 c.from.result k ∙ c.from.ensures in
    let a = subst (λ z. Answered (typeset m c.args.font z c.args.at) c.args.chain.now c.typeset.new.chain c.args.marks.now c.typeset.new.marks c.typeset.result) code c.typeset.ensures in
    single-well _ _ _ c.args.at c.args.font (pos c.args.code) c.requires.code c.requires.last _ _ c.typeset.new.chain _ _ _ a c.in-Ok.n c.in-Ok.width c.in-Ok-across.field-0 c.requires.packet c.in-Ok.is (c.in-Ok-across.ensures ∙ ap (across c.args.at) (to_z-of_z w64 c.in-Ok.width f))

pub returns-in-Err-across : goal.returns-in-Err-across
returns-in-Err-across g c =
    let m = g.S.Shelf.means c.args.self.now.below.now in
    let f : SFits w64 c.in-Ok.width = search rules in
    let k : SFits w64 c.from.result = search rules in
    let code : to_z w64 (of_z w64 c.from.result) ≡ pos c.args.code = to_z-of_z w64 c.from.result k ∙ c.from.ensures in
    let a = subst (λ z. Answered (typeset m c.args.font z c.args.at) c.args.chain.now c.typeset.new.chain c.args.marks.now c.typeset.new.marks c.typeset.result) code c.typeset.ensures in
    single-too_far _ _ _ c.args.at c.args.font (pos c.args.code) c.requires.code c.requires.last _ _ _ _ _ _ a c.in-Ok.n c.in-Ok.width c.in-Err-across.cause _ c.in-Ok.is (c.in-Err-across.ensures ∙ ap (across c.args.at) (to_z-of_z w64 c.in-Ok.width f))
    (at-link _ _ _ _ _ _ c.link.ensures (rw c.into.ensures at c.pass_on.ensures.fault) (rw c.into.ensures at c.pass_on.ensures.full))

pub returns-in-Err : goal.returns-in-Err
returns-in-Err g c =
    let m = g.S.Shelf.means c.args.self.now.below.now in
    let k : SFits w64 c.from.result = search rules in
    let code : to_z w64 (of_z w64 c.from.result) ≡ pos c.args.code = to_z-of_z w64 c.from.result k ∙ c.from.ensures in
    let a = subst (λ z. Answered (typeset m c.args.font z c.args.at) c.args.chain.now c.typeset.new.chain c.args.marks.now c.typeset.new.marks c.typeset.result) code c.typeset.ensures in
    single-refused _ _ _ c.args.at c.args.font (pos c.args.code) c.requires.code c.requires.last _ _ _ _ _ _ a c.in-Err.e _ c.in-Err.is (at-link _ _ _ _ _ _ c.link-in-Err.ensures c.pass_on-in-Err.ensures.fault c.pass_on-in-Err.ensures.full)
