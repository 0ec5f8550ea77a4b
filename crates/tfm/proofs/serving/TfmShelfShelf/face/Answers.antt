use Rattle.std.proofs.Common.{rules, vec_items}
use Rattle.tfm.specs.Laws.{face-at, face-past}
use Rattle.tfm.proofs.serving.TfmShelfShelf.face.Goals as goal

pub returns : goal.returns
returns c =
    let a = face-at (vec_items c.args.self.now.bytes) (vec_items c.args.self.now.faces) c.args.k in
    let b = face-past (vec_items c.args.self.now.bytes) (vec_items c.args.self.now.faces) c.args.k in
    search (rules, a, b)
