use Rattle.std.proofs.Common.{◌≡◌, ◌∙◌, [], ◌∷◌, ◌++◌, List, append_assoc, map, refl, ap}
use Rattle.std.proofs.lemmas.List.{take_all}
use Rattle.area_routes.proofs.AddsLemmas.{adds_start, adds_step, map_adds}
use Rattle.change_lines.specs.declared.change_name.ChangeName.{ChangeName}
use Rattle.table_changes.specs.declared.change.PrefixChange.{PrefixChange}
use Rattle.comparison.specs.Named.{name_of}
use Rattle.comparison.proofs.changes.push_names.Goals as goal

pub loop-found-init : goal.loop-found-init
loop-found-init g c =
    adds_start (map_adds (name_of c.args.both.now c.args.router)) (λ (cs : List ChangeName). c.args.names.now.items ≡ cs) c.args.changes.now
    c.args.names.now.items refl

pub loop-found-preserved : goal.loop-found-preserved
loop-found-preserved g c =
    let name = name_of c.args.both.now c.args.router in
    let start = c.args.names.now.items in
    adds_step (map_adds name) (λ (cs : List ChangeName). c.loop-found.names.items ≡ start ++ cs)
    (λ (cs : List ChangeName). c.push.new.self.items ≡ start ++ cs)
    c.args.changes.now c.loop-found.found-index c.found-item.result c.loop-found-test.true c.found-item.is c.loop-found.invariant (λ cs was.
    c.in_ok-push.ensures.items ∙ ap (λ (l : List ChangeName). l ++ c.name_of.result ∷ []) was
    ∙ append_assoc start cs (c.name_of.result ∷ []) ∙ ap (λ (n : ChangeName). start ++ (cs ++ n ∷ [])) c.name_of.ensures)

pub returns : goal.returns
returns g c =
    c.loop-found.invariant
    ∙ ap (λ (l : List PrefixChange). c.args.names.now.items ++ map (name_of c.args.both.now c.args.router) l)
    (take_all c.loop-found.found-index c.args.changes.now c.loop-found-test.false)
