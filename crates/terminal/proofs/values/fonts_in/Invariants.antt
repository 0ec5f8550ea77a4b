use Rattle.std.proofs.Common.{◌≡◌, ◌++◌, map, drop}
use Rattle.std.specs.Option.{option_map}
use Rattle.terminal.specs.Values.{all_fonts, font_view}
use Rattle.terminal.proofs.values.fonts_in.Given as goal

-- the fonts so far, and those of the parts behind
abbrev pub invariant-loop-part : goal.invariant-loop-part
invariant-loop-part l = all_fonts (map (λ x. x.now) l.parts) ≡ option_map (λ fs. map font_view l.fonts.items ++ fs) (all_fonts (map (λ x. x.now) (drop l.part-index l.parts)))
