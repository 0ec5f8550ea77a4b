use Rattle.std.proofs.Common.{◌≡◌, ℕ, Some, None, Option, sym, ap, ◌∙◌, subst, arith}
use Rattle.std.proofs.lemmas.Result.{err_from_is_err_and}
use Rattle.shelf.specs.Alone.{faces_alone}
use Rattle.shelf.specs.Answers.{Answered}
use Rattle.shelf.specs.Names.{found_in}
use Rattle.shelf.specs.Telling.{facts_in, telling}
use Rattle.shelf.specs.FaceLaws.{alone-called, face-told, never-none, started-alone}
use Rattle.shelf.specs.Served.{by-fault, called-fault}
use Rattle.shelf.specs.Starting.{passed}
use Rattle.shelf.proofs.alone.FacesAloneShelf.character.Goals as goal

pub returns-in_err-start : goal.returns-in_err-start
returns-in_err-start g c =
    let m = g.S.Shelf.means c.args.self.now.0 in
    let a = c.args.asked in
    let p = err_from_is_err_and c.from_residual.result c.from_residual.ensures.1 in
    let s = started-alone m _ a.font a.size a.h a.v _ c.count.ensures.faces c.in_err-start.ensures in
    rw (p.1, p.2) (by-fault _ _ _ c.in_err-start.field-0.0 (called-fault (faces_alone m) a.font a.size a.code a.h a.v _ s))

-- a face is there for each font
pub returns-in_err-face : goal.returns-in_err-face
returns-in_err-face g c =
    let m = g.S.Shelf.means c.args.self.now.0 in
    let a = c.args.asked in
    let s = started-alone m _ a.font a.size a.h a.v _ c.count.ensures.faces c.in_ok-start.ensures in
    let none : c.face.result ≡ None = grind arith in
    absurd (never-none m.faces a.font (passed _ a.font a.size a.h a.v _ s).within (ap telling (sym none) ∙ c.face.ensures))

-- and bears a name that is found
pub returns-in_err-font : goal.returns-in_err-font
returns-in_err-font g c =
    let m = g.S.Shelf.means c.args.self.now.0 in
    let there : c.face.result ≡ Some c.in_ok-face.face = grind arith in
    let none : c.find.result ≡ None = grind arith in
    let t = face-told m.faces c.args.asked.font (facts_in c.in_ok-face.face) (ap telling (sym there) ∙ c.face.ensures) in
    let w = (g.met.S.Shelf.lawful c.args.self.now.0).good-faces c.args.asked.font t.0 t.1 in
    let q : ◌≡◌ {A = Option ℕ} None (Some w.font) = sym none ∙ c.find.ensures ∙ ap (λ f. found_in m.names f.name) t.2 ∙ w.font-is in
    let z : ◌≡◌ {A = ℕ} 0 1 = cc in
    absurd (omega arith)

pub returns : goal.returns
returns g c =
    let m = g.S.Shelf.means c.args.self.now.0 in
    let a = c.args.asked in
    let s = started-alone m _ a.font a.size a.h a.v _ c.count.ensures.faces c.in_ok-start.ensures in
    let there : c.face.result ≡ Some c.in_ok-face.face = grind arith in
    let found : c.find.result ≡ Some c.in_ok-font.font = grind arith in
    let t = face-told m.faces a.font (facts_in c.in_ok-face.face) (ap telling (sym there) ∙ c.face.ensures) in
    let first : found_in m.names t.0.facts.name ≡ Some c.in_ok-font.font = ap (λ f. found_in m.names f.name) (sym t.2) ∙ sym c.find.ensures ∙ found in
    subst (λ o. Answered o c.args.chain.now c.character.new.chain c.args.marks.now c.character.new.marks c.character.result)
    (alone-called m (g.met.S.Shelf.lawful c.args.self.now.0) a.font c.in_ok-font.font a.size a.code a.h a.v _ t.0 s t.1 first) c.character.ensures
