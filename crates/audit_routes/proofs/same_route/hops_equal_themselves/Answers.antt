use Rattle.std.proofs.Common.{nat_eq, refl}
use Rattle.std.proofs.lemmas.Bool.{and_from}
use Rattle.std.proofs.lemmas.Bool.Decides.{Decides-eqb}
use Rattle.next_hops.specs.declared.hop.Hop.TheVariants.{Connected, Link, Attached, Gateway}
use Rattle.audit_routes.proofs.same_route.hops_equal_themselves.Goals as goal

pub returns : goal.returns
returns c Connected = refl
returns c (Link d) = (Decides-eqb d.0 d.0).1 refl
returns c (Attached d) = (Decides-eqb d.0 d.0).1 refl
returns c (Gateway d a) = and_from (nat_eq d.0 d.0) (nat_eq a.0 a.0) ((Decides-eqb d.0 d.0).1 refl) ((Decides-eqb a.0 a.0).1 refl)
