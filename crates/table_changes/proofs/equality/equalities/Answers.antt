use Rattle.std.proofs.Common.{nat_eq, refl}
use Rattle.std.proofs.lemmas.Bool.{and_from}
use Rattle.std.proofs.lemmas.Bool.Decides.{Decides-eqb}
use Rattle.next_hops.specs.declared.hop.Hop.TheVariants.{Connected, Link, Attached, Gateway}
use Rattle.study_words.specs.declared.route_kind.RouteKind.TheVariants as kind
use Rattle.table_changes.specs.declared.change.Change.TheVariants as change
use Rattle.table_changes.proofs.equality.equalities.Goals as goal

pub returns-clause-kinds : goal.returns-clause-kinds
returns-clause-kinds c kind.Intra kind.Intra = refl
returns-clause-kinds c kind.Inter kind.Inter = refl
returns-clause-kinds c kind.External1 kind.External1 = refl
returns-clause-kinds c kind.External2 kind.External2 = refl
returns-clause-kinds c kind.Own kind.Own = refl
returns-clause-kinds c a b = refl

pub returns-clause-changes : goal.returns-clause-changes
returns-clause-changes c change.Missing change.Missing = refl
returns-clause-changes c change.Gained change.Gained = refl
returns-clause-changes c change.OtherKind change.OtherKind = refl
returns-clause-changes c change.Costlier change.Costlier = refl
returns-clause-changes c change.Cheaper change.Cheaper = refl
returns-clause-changes c change.Moved change.Moved = refl
returns-clause-changes c a b = refl

pub returns-clause-hops : goal.returns-clause-hops
returns-clause-hops c Connected = refl
returns-clause-hops c (Link d) = (Decides-eqb d.0 d.0).1 refl
returns-clause-hops c (Attached d) = (Decides-eqb d.0 d.0).1 refl
returns-clause-hops c (Gateway d a) = and_from (nat_eq d.0 d.0) (nat_eq a.0 a.0) ((Decides-eqb d.0 d.0).1 refl) ((Decides-eqb a.0 a.0).1 refl)
