use Rattle.std.proofs.Common.{◌≡◌, ◌∙◌, refl, subst, sym, ap}
use Rattle.lsdb.specs.declared.counts.LsaCounts.{LsaCounts}
use Rattle.lsdb.specs.Counts.{AreFew, counts_of}
use Rattle.lsdb.specs.Slots.{Slots, lists_of, lsas_in}
use Rattle.lsdb.specs.steps.View.{slots_of}
use Rattle.lsdb.proofs.Walked.{section_seen, counts_few_at}
use Rattle.lsdb.proofs.database.Database.counts_in.Goals as goal

pub returns-clause-counts : goal.returns-clause-counts
returns-clause-counts g c =
    subst (λ (d : Slots). c.counts.result ≡ counts_of (lsas_in d c.args.section)) c.self.view_is
    (c.counts.ensures ∙ ap counts_of (section_seen c.self.inside.sections.items c.args.section c.index.result.now c.index.result.now.slots
    (rw c.self.view_is c.requires) c.index.ensures refl))

pub returns-clause-few : goal.returns-clause-few
returns-clause-few g c =
    subst (λ (counts : LsaCounts). AreFew 65535 counts)
    (sym (c.counts.ensures ∙ ap counts_of (section_seen c.self.inside.sections.items c.args.section c.index.result.now c.index.result.now.slots
    (rw c.self.view_is c.requires) c.index.ensures refl)))
    (counts_few_at (lists_of (slots_of c.self.inside.sections.items)) c.args.section c.self.invariant.sound.sections)
