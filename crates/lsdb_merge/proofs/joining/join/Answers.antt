use Rattle.std.proofs.Common.{◌≡◌, ◌⊎◌, inl, inr, sym, subst, List, Some}
use Rattle.std.proofs.lemmas.Result.{IfErr-weaker, IfOk-weaker}
use Rattle.forgotten_instances.specs.Forgotten.{remembered}
use Rattle.lsa_instances.specs.declared.observation.Observation.{Observation}
use Rattle.lsdb_merge.specs.declared.fault.JoinFault.TheVariants.{OutOfMemory}
use Rattle.lsdb_merge.specs.Joining.{Joining, joined}
use Rattle.lsdb_merge.specs.Limits.{fault_of}
use Rattle.lsdb_merge.specs.steps.Scopes.{HaveRisingKeys}
use Rattle.lsdb_merge.proofs.Joined.{joining_of}
use Rattle.lsdb_merge.proofs.joining.join.Goals as goal

pub database_of-requires-clause-rising : goal.database_of-requires-clause-rising
database_of-requires-clause-rising g c =
    let P : List (Observation g.row.A.Denot) → Type 0 = λ xs. HaveRisingKeys xs in
    subst P (sym c.deref-2.ensures.value)
    (λ scope. c.keys_rise.ensures c.args.flushed (remembered c.args.observations.items) c.in_ok-newest.newest.items scope c.in_ok-newest.ensures)

pub returns-clause-joined : goal.returns-clause-joined
returns-clause-joined g c =
    let two = joining_of c.args.flushed (remembered c.args.observations.items) c.args.areas.now c.in_ok-newest.newest.items c.deref.result.now c.deref-2.result.now
    c.in_ok-scopes.scopes.items c.deref-3.result.now c.deref.ensures.value c.deref-2.ensures.value c.deref-3.ensures.value
    c.in_ok-newest.ensures c.in_ok-scopes.ensures.all in
    let j : Joining c.args.flushed c.args.observations.items c.args.areas.now =
    record { newest = c.deref-2.result.now; scopes = c.deref-3.result.now; are_newest = two.0; are_scopes = two.1 } in
    IfOk-weaker c.database_of.result _ _ (λ db h. (j, h)) c.database_of.ensures.joined

pub returns-clause-fault : goal.returns-clause-fault
returns-clause-fault g c =
    let two = joining_of c.args.flushed (remembered c.args.observations.items) c.args.areas.now c.in_ok-newest.newest.items c.deref.result.now c.deref-2.result.now
    c.in_ok-scopes.scopes.items c.deref-3.result.now c.deref.ensures.value c.deref-2.ensures.value c.deref-3.ensures.value
    c.in_ok-newest.ensures c.in_ok-scopes.ensures.all in
    let j : Joining c.args.flushed c.args.observations.items c.args.areas.now =
    record { newest = c.deref-2.result.now; scopes = c.deref-3.result.now; are_newest = two.0; are_scopes = two.1 } in
    IfErr-weaker c.database_of.result _ _
    (λ fault h.
    elim h as (λ _. (fault ≡ OutOfMemory) ⊎ ((k : Joining c.args.flushed c.args.observations.items c.args.areas.now) × (fault_of k.newest (joined k) ≡ Some fault))) [
      | inl m ↦ inl m
      | inr e ↦ inr (j, e)
    ]) c.database_of.ensures.fault
