use Rattle.std.proofs.Common.{◌≡◌, List, rules, vec_len, length, subst, ◌∙◌}
use Rattle.std.proofs.lemmas.Result.{IfOk-weaker}
use Rattle.lsa_codec.specs.declared.address.AreaId.{AreaId}
use Rattle.lsa_codec.specs.Order.{area_cmp}
use Rattle.capture_report.specs.FileLines.{line_words}
use Rattle.capture_report.specs.Sets.{AreOnce}
use Rattle.capture_report.proofs.line.file_line.Goals as goal

pub returns : goal.returns
returns g c =
    let ids = c.in_ok-once.field-0.items in
    let lsas : vec_len c.args.file.now.observations ≡ length c.args.file.now.observations.items = search rules in
    let areas : vec_len c.in_ok-once.field-0 ≡ length ids = search rules in
    IfOk-weaker c.line_of.result _ _
    (λ line h. record {
      areas = ids;
      once = subst (λ (all : List AreaId). AreOnce area_cmp all ids) (c.deref.ensures.value ∙ c.in_ok-reported.ensures) c.in_ok-once.ensures;
      spelled = h
          ∙ (λ i. line_words c.args.name.now (c.kind_name-kind.ensures i) ((c.len-lsas.ensures ∙ lsas) i) ((c.len-areas.ensures ∙ areas) i));
    })
    c.line_of.ensures
