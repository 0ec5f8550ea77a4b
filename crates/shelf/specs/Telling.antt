-- What `face` answers, as facts about a face.
use Rattle.std.specs.Prelude.{Option}
use Rattle.std.specs.Option.{option_map}
use Rattle.shelf.specs.declared.fonts.Face.{Face}
use Rattle.shelf.specs.Meaning.{Facts}

abbrev pub facts_in : Face → Facts
facts_in f = record { name = f.name.now; checksum = f.checksum; design = f.design }

abbrev pub telling : Option Face → Option Facts
telling r = option_map facts_in r
