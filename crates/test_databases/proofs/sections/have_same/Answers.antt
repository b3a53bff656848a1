use Rattle.std.proofs.Common.{List, refl, subst, arith}
use Rattle.std.specs.Prelude.{All}
use Rattle.std.proofs.lemmas.List.{take_all}
use Rattle.std.proofs.lemmas.List.Elements.{All-more}
use Rattle.lsdb.specs.declared.section.Section.{Section}
use Rattle.lsdb.specs.Slots.{lists_of}
use Rattle.test_databases.specs.Edited.{HasSame}
use Rattle.test_databases.proofs.sections.have_same.Goals as goal

pub loop-section-preserved : goal.loop-section-preserved
loop-section-preserved g c =
    All-more (HasSame (lists_of c.args.database.now) (lists_of c.args.other.now)) c.args.sections.now c.loop-section.section-index _ (omega arith)
    c.loop-section.invariant (c.has_same.ensures.0 c.if-not-has_same.false)

pub returns : goal.returns
returns g c = (
  λ _. subst (λ (sections : List Section). All (HasSame (lists_of c.args.database.now) (lists_of c.args.other.now)) sections)
      (take_all c.loop-section.section-index c.args.sections.now (omega arith)) c.loop-section.invariant,
  λ _. refl,
)
