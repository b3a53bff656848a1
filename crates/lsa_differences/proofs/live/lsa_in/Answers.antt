use Rattle.std.proofs.Common.{◌∙◌, sym}
use Rattle.lsdb.specs.Slots.{lists_of}
use Rattle.lsa_differences.proofs.LiveLsas.{lsa_in-live}
use Rattle.lsa_differences.proofs.live.lsa_in.Goals as goal

pub returns : goal.returns
returns g c =
    c.unless_at_max_age.ensures ∙ sym (lsa_in-live (lists_of c.args.database.now) c.assert_valid.ensures c.args.section c.args.key)
