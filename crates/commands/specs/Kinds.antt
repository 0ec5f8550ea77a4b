-- The first byte of a command: its kind, and in how many bytes its parameter stands.
use Rattle.std.specs.Prelude.{ℕ, ◌-◌, cond, nat_lt}
use Rattle.commands.specs.declared.kinds.Kind.{Kind}
use Rattle.commands.specs.declared.kinds.Kind.TheVariants.{SetChar, Set, SetRule, Put, PutRule, Nop, Eop, Push, Pop, Right, W0, W, X0, X, Down, Y0, Y, Z0, Z, FntNum, Fnt, Xxx, FntDef, Undefined}

abbrev pub kind_of : ℕ → Kind × ℕ
kind_of b =
    cond (nat_lt b 128) (SetChar, 0) (
    cond (nat_lt b 132) (Set, b - 127) (
    cond (nat_lt b 133) (SetRule, 0) (
    cond (nat_lt b 137) (Put, b - 132) (
    cond (nat_lt b 138) (PutRule, 0) (
    cond (nat_lt b 139) (Nop, 0) (
    cond (nat_lt b 140) (Undefined, 0) (
    cond (nat_lt b 141) (Eop, 0) (
    cond (nat_lt b 142) (Push, 0) (
    cond (nat_lt b 143) (Pop, 0) (
    cond (nat_lt b 147) (Right, b - 142) (
    cond (nat_lt b 148) (W0, 0) (
    cond (nat_lt b 152) (W, b - 147) (
    cond (nat_lt b 153) (X0, 0) (
    cond (nat_lt b 157) (X, b - 152) (
    cond (nat_lt b 161) (Down, b - 156) (
    cond (nat_lt b 162) (Y0, 0) (
    cond (nat_lt b 166) (Y, b - 161) (
    cond (nat_lt b 167) (Z0, 0) (
    cond (nat_lt b 171) (Z, b - 166) (
    cond (nat_lt b 235) (FntNum, 0) (
    cond (nat_lt b 239) (Fnt, b - 234) (
    cond (nat_lt b 243) (Xxx, b - 238) (
    cond (nat_lt b 247) (FntDef, b - 242) (
    (Undefined, 0)))))))))))))))))))))))))
