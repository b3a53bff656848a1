use Rattle.std.proofs.Common.{◌≡◌, ◌∙◌, subst, arith, length, ap}
use Rattle.lsdb.specs.Slots.{Slots, lists_of, lsas_in}
use Rattle.lsdb.specs.steps.View.{slots_of}
use Rattle.lsdb.proofs.Walked.{section_seen, few_at}
use Rattle.lsdb.proofs.database.Database.lsas_in.Goals as goal

pub returns-clause-lsas : goal.returns-clause-lsas
returns-clause-lsas g c =
    subst (λ (d : Slots). c.of.result ≡ lsas_in d c.args.section) c.self.view_is
    (c.of.ensures ∙ section_seen c.self.inside.sections.items c.args.section c.index.result.now c.as_slice.result.now
    (rw c.self.view_is c.requires) c.index.ensures c.as_slice.ensures)

pub returns-clause-few : goal.returns-clause-few
returns-clause-few g c =
    omega (
      arith,
      few_at (lists_of (slots_of c.self.inside.sections.items)) c.args.section c.self.invariant.sound.sections,
      ap length
          (c.of.ensures ∙ section_seen c.self.inside.sections.items c.args.section c.index.result.now c.as_slice.result.now
          (rw c.self.view_is c.requires) c.index.ensures c.as_slice.ensures),
    )
