-- A packet with its length in one byte.
use Rattle.std.proofs.Common.{◌≡◌, ℕ, List, drop, refl, rules}
use Rattle.std.proofs.lemmas.List.{take_rest}
use Rattle.vf.proofs.Shorts.{short_width, short_is}
use Rattle.vf.proofs.packets.packet_at.Goals as goal

pub returns-in-len5-up-clause-is : goal.returns-in-len5-up-clause-is
returns-in-len5-up-clause-is c =
    let s = c.args.file.now in
    let rest : ◌≡◌ {A = List ℕ} c.in_ok-get.field-0.now (drop c.args.at s) = search (rules, take_rest) in
    short_is s _ c.args.at rest _ _ _ _ c.hold.ensures.is c.from.ensures refl (short_width s _ c.args.at rest _ c.from_be_bytes-width.ensures) (search rules) (search rules)
