use Rattle.std.proofs.Common.{◌≡◌, ◌∙◌, ◌++◌, ℕ, List, ap, get_or, subst, take}
use Rattle.std.specs.Prelude.{IfOk, flat_map}
use Rattle.std.proofs.lemmas.List.{take_all}
use Rattle.lsa_codec.specs.declared.address.RouterId.{RouterId}
use Rattle.area_routes.proofs.AddsLemmas.{adds_at, flat_map_adds}
use Rattle.change_lines.specs.ChangeTexts.{ChangesValue}
use Rattle.change_lines.specs.Groups.{by_group}
use Rattle.change_lines.specs.declared.change_name.ChangeName.{ChangeName}
use Rattle.comparison.specs.Named.{changes_for, names_of, unchanged_of}
use Rattle.comparison.proofs.Steps.{summed}
use Rattle.comparison.proofs.all_changes.changes_for.Goals as goal

abbrev no_router : RouterId
no_router = record { 0 = 0 }

pub loop-router-preserved : goal.loop-router-preserved
loop-router-preserved g c =
    let both = c.args.comparison.now in
    let routers = c.args.routers.now in
    let i = c.loop-router.router-index in (
      adds_at (flat_map_adds (names_of both)) (λ (cs : List ChangeName). c.loop-router.names.items ≡ cs)
          (λ (cs : List ChangeName). c.push_changes_of.new.names.items ≡ cs)
          routers i no_router c.loop-router-test.true c.loop-router.invariant.0 (λ cs was.
          c.in_ok-more.ensures.names ∙ ap (λ (l : List ChangeName). l ++ names_of both (get_or routers i no_router)) was),
      summed routers i no_router c.loop-router-test.true (unchanged_of both) c.loop-router.unchanged c.in_ok-more.more _
          c.loop-router.invariant.1 c.in_ok-more.ensures.unchanged c.in_ok-total.ensures,
    )

pub returns : goal.returns
returns g c =
    let both = c.args.comparison.now in
    let i = c.loop-router.router-index in
    let so_far : List RouterId = take i c.args.routers.now in
    let all : List ChangeName → ℕ → ChangesValue = λ names unchanged. record { names = by_group names; unchanged = unchanged } in
    let same : all c.deref.result.now c.loop-router.unchanged ≡ changes_for both c.args.routers.now =
    ap (λ (l : List ChangeName). all l c.loop-router.unchanged) (c.deref.ensures.value ∙ c.loop-router.invariant.0)
    ∙ ap (λ (n : ℕ). all (flat_map (names_of both) so_far) n) c.loop-router.invariant.1
    ∙ ap (changes_for both) (take_all i c.args.routers.now c.loop-router-test.false) in
    subst (λ (v : ChangesValue). IfOk c.by_group.result (λ changes. changes ≡ v)) same c.by_group.ensures
