use Rattle.std.proofs.Common.{◌∙◌, ℕ, ap, sym}
use Rattle.std.proofs.lemmas.Bool.{eqb-true}
use Rattle.lsa_codec.specs.declared.address.AreaId.{AreaId}
use Rattle.table_report.proofs.Sameness.{same_items}
use Rattle.table_report.proofs.compare.are_same_areas.Goals as goal

abbrev area_of : ℕ → AreaId
area_of n = record { 0 = n }

pub returns : goal.returns
returns c = λ same.
    same_items _ (λ x y e. ap area_of (eqb-true x.0 y.0 e)) c.args.before.now c.args.now.now (sym c.eq.ensures ∙ same)
