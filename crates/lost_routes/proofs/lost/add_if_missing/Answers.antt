use Rattle.std.proofs.Common.{◌≡◌, ◌∙◌, true, sym, ap}
use Rattle.std.specs.Prelude.{not}
use Rattle.lost_routes.specs.Lost.{lacks}
use Rattle.lost_routes.proofs.GatheredLemmas.{gathers_one}
use Rattle.lost_routes.proofs.Missing.{gathers_kept}
use Rattle.lost_routes.proofs.lost.add_if_missing.Goals as goal

pub returns-in_ok-insert : goal.returns-in_ok-insert
returns-in_ok-insert g c =
    let is_missing : lacks c.args.is.now c.args.net ≡ true = ap not (sym c.has_entry.ensures ∙ c.if-not-has_entry.true) in
    gathers_kept (lacks c.args.is.now) c.args.net c.args.found.now.keys c.insert.new.self.keys is_missing
    (gathers_one c.args.net c.args.found.now.keys c.insert.new.self.keys c.in_ok-insert.ensures.keys)
