use Rattle.assemble.specs.declared.lines.Entry.{Entry}
use lib.Dec.{eqb}
use Rattle.std.proofs.Common.{rules, tests}
use Rattle.std.proofs.lemmas.Iterator.{YieldsList-from_slice}
use Rattle.std.proofs.lemmas.Iterator.Search.{position_from_yields_List}
use Rattle.assemble.proofs.Linking.{search_place}
use Rattle.assemble.proofs.links.place.Goals as goal

pub returns : goal.returns
returns c =
    let es = c.args.entries.now in
    let k = c.args.key in
    search_place k es c.position.result
    (position_from_yields_List (λ (x : Entry). eqb x.label k) _ _ c.position.result c.position.ensures.ran (YieldsList-from_slice es cc) (λ x b q m. search (rules, tests)))
