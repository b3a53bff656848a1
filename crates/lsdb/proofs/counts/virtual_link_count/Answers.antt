use Rattle.std.proofs.Common.{◌≡◌, ◌∙◌, arith, ap, inl, length}
use Rattle.lsa_codec.specs.Links.{links_of}
use Rattle.lsdb.proofs.CountedLsas.{links_few}
use Rattle.lsdb.proofs.counts.virtual_link_count.Goals as goal

pub count-requires-clause-fits : goal.count-requires-clause-fits
count-requires-clause-fits g c =
    let few = links_few c.args.lsa.now c.in-Some.ensures.2 c.in-Some.ensures.1 in
    let links : c.filter.result.iter ≡ links_of c.args.lsa.now = c.filter.ensures.source ∙ c.links.ensures ∙ ap links_of c.in-Some.ensures.0 in
    inl (omega (arith, ap length links, few))

pub returns-in-Some-clause-few : goal.returns-in-Some-clause-few
returns-in-Some-clause-few g c =
    let links : c.filter.result.iter ≡ links_of c.args.lsa.now = c.filter.ensures.source ∙ c.links.ensures ∙ ap links_of c.in-Some.ensures.0 in
    omega (arith, c.count.ensures.bound, ap length links, links_few c.args.lsa.now c.in-Some.ensures.2 c.in-Some.ensures.1)
