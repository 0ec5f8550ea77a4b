-- The fields, which are read behind the font number.
use Rattle.std.proofs.Common.{◌≡◌, ℕ, ◌+◌, ◌-◌, ◌≤◌, List, length, take, drop, get_or, ◌∙◌, rules, arith}
use Rattle.std.proofs.lemmas.List.{take_rest, drop-drop}
use Rattle.commands.proofs.Fields.{byte_behind, number_behind, defined_there}
use Rattle.commands.proofs.definitions.definition_at.Goals as goal

pub returns-clause-is : goal.returns-clause-is
returns-clause-is c =
    let s = c.args.bytes.now in
    let at = c.args.at in
    let w = c.args.width in
    let rest : ◌≡◌ {A = List ℕ} c.in_ok-rest.rest.now (drop (at + w + 1) s) = search (rules, take_rest) in
    let x : ◌≡◌ {A = ℕ} c.in_ok-get.field-0.now (get_or c.in_ok-rest.rest.now 12 0) = search rules in
    let y : ◌≡◌ {A = ℕ} c.in_ok-get-2.field-0.now (get_or c.in_ok-rest.rest.now 13 0) = search rules in
    let part : ◌≡◌ {A = List ℕ} c.in_ok-get-3.field-0.now (take (length c.in_ok-rest.rest.now - 14) (drop 14 c.in_ok-rest.rest.now)) = search rules in
    let tail : ◌≡◌ {A = List ℕ} c.in_ok-get-3.field-0.now (drop 14 c.in_ok-rest.rest.now) = part ∙ take_rest c.in_ok-rest.rest.now 14 in
    let name : ◌≡◌ {A = List ℕ} c.in_ok-get-4.field-0.now (take (c.in_ok-get.field-0.now + c.in_ok-get-2.field-0.now) c.in_ok-get-3.field-0.now) = search rules in
    let behind : at + w + 1 + 14 ≡ at + w + 15 = omega arith in
    let room : at + w + 15 + (c.in_ok-get.field-0.now + c.in_ok-get-2.field-0.now) ≤ length s = search rules in
    defined_there s at w _ _ _ _ (c.in_ok-get.field-0.now + c.in_ok-get-2.field-0.now) _ (search rules)
    (c.number.ensures.value ∙ number_behind s _ _ rest 0 (at + w + 1) 4 (omega arith))
    (c.number-2.ensures.value ∙ number_behind s _ _ rest 4 (at + w + 5) 4 (omega arith))
    (c.number-3.ensures.value ∙ number_behind s _ _ rest 8 (at + w + 9) 4 (omega arith))
    (rw (x, y, byte_behind s _ _ rest 12 (at + w + 13) (omega arith), byte_behind s _ _ rest 13 (at + w + 14) (omega arith))) (name ∙ rw (tail, rest, drop-drop, behind)) room
