use Rattle.std.proofs.Common.{[], ap}
use Rattle.std.specs.Option.{unwrap_or}
use Rattle.std.specs.List.{find, flat_map}
use Rattle.edit_script.specs.Words.{words}
use Rattle.network_names.specs.Names.{stands_for}
use Rattle.study_arguments.specs.Values.{router_id}
use Rattle.text_words.specs.Words.{Word}
use Rattle.refusal_hints.specs.RouterWord.{is_router, parts}
use Rattle.refusal_hints.proofs.PartFound.{none_found, part_found}
use Rattle.refusal_hints.proofs.router_word.naming.Goals as goal

-- the part of this word is the first that names the router
pub returns-in-Some-part_naming : goal.returns-in-Some-part_naming
returns-in-Some-part_naming g c =
    let p = λ (part : Word). is_router c.args.router (router_id (stands_for c.args.names.now) part) in
    ap (λ o. unwrap_or o []) (part_found p (find p (flat_map parts (words c.args.text.now))) (words c.loop-at.rest.now) c.in-Some.at.word.now
    (words c.in-Some.at.rest.now) c.in-Some.ensures.value.0 c.loop-at.invariant c.in-Some-part_naming.part.now c.in-Some-part_naming.ensures)

-- no part of this word names it
pub loop-at-preserved : goal.loop-at-preserved
loop-at-preserved g c =
    let p = λ (part : Word). is_router c.args.router (router_id (stands_for c.args.names.now) part) in
    none_found p (find p (flat_map parts (words c.args.text.now))) (words c.loop-at.rest.now) c.in-Some.at.word.now
    (words c.in-Some.at.rest.now) c.in-Some.ensures.value.0 c.loop-at.invariant c.in_default-part_naming.ensures
