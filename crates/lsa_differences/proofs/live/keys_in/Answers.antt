use Rattle.std.proofs.Common.{◌∙◌, List, ℕ, ap, filter, map, sym}
use Rattle.std.proofs.lemmas.Result.{IfOk-weaker}
use Rattle.lsa_codec.specs.Key.{key_of}
use Rattle.lsdb.specs.Slots.{lists_of}
use Rattle.area_graph.specs.Area.{is_live}
use Rattle.lsa_differences.proofs.LiveParts.{lsas_of-live}
use Rattle.lsa_differences.proofs.live.keys_in.Goals as goal

pub returns : goal.returns
returns g c =
    IfOk-weaker c.keys_of_live.result _ _
    (λ keys are. are ∙ ap (λ (lsas : List (List ℕ)). map key_of (filter is_live lsas)) c.lsas.ensures.lsas
    ∙ ap (map key_of) (sym (lsas_of-live c.args.section (lists_of c.args.database.now))))
    c.keys_of_live.ensures
