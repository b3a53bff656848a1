use Rattle.std.proofs.Common.{◌≡◌, ◌∙◌, ◌<◌, ◌+◌, ◌≤◌, ◌++◌, ℕ, List, [], ◌∷◌, Some, length, take, get_or, refl, ap, sym, subst, arith}
use Rattle.std.specs.List.{filter_map}
use Rattle.std.specs.String.{string_bytes}
use Rattle.std.proofs.lemmas.List.{get_or-map, length-map, length-take-le, take_all, take_more}
use Rattle.std.proofs.lemmas.Option.{slice_get_read}
use Rattle.lsa_codec.specs.Prefix.{Net}
use Rattle.best_ways.specs.Routes.{nets, route_to}
use Rattle.best_ways.specs.Values.{RouteValue}
use Rattle.table_report.specs.Comparing.{change, change_at}
use Rattle.table_report.specs.Texts.{lines_text}
use Rattle.table_report.specs.steps.Lines.{AddsLine}
use Rattle.table_report.proofs.Added.{count_added, count_same, lines_are, no_more}
use Rattle.table_report.proofs.Differing.{route_at, same_nets}
use Rattle.table_report.proofs.compare.changes_in_place.Goals as goal
use Rattle.table_report.proofs.compare.changes_in_place.Goals.{then-branch, else-branch}

pub loop-index-init : goal.loop-index-init
loop-index-init g c = (c.new-lines.ensures.bytes, refl, refl)

pub overflow_add-count : goal.overflow_add-count
overflow_add-count g c =
    let all = nets c.args.before.now in
    omega (
      arith,
      c.loop-index.invariant.1,
      no_more (change_at c.args.before.now c.args.now.now) (take c.loop-index.index all),
      length-take-le c.loop-index.index all (omega (arith, c.loop-index-test.true, length-map c.args.before.now (λ (r : RouteValue). r.net))),
      c.loop-index-test.true,
      c.loop-index.auto.index-end,
    )

pub loop-index-preserved : goal.loop-index-preserved
loop-index-preserved g c =
    let before = c.args.before.now in
    let now = c.args.now.now in
    let i = c.loop-index.index in
    let one = c.index-before-index.result in
    let other = c.index-now-index.result in
    let net : Net = one.net in
    let lt : i < length before = c.loop-index-test.true in
    let lt_now : i < length now = subst (λ (n : ℕ). i < n) c.if-before-now.false lt in
    let same : one.net ≡ other.net = c.are_to_same_net.ensures c.if-not-are_to_same_net.false in
    let by_before : Some one ≡ route_to before net =
    route_at before i one net c.requires.before (slice_get_read before (length before) i one refl lt c.index-before-index.is) refl in
    let by_now : Some other ≡ route_to now net =
    route_at now i other net c.requires.now (slice_get_read now (length now) i other refl lt_now c.index-now-index.is) (sym same) in
    let all = nets before in
    let all_now = nets now in
    let in_all : i < length all = subst (λ (n : ℕ). i < n) (sym (length-map before (λ (r : RouteValue). r.net))) lt in
    let in_now : i < length all_now = subst (λ (n : ℕ). i < n) (sym (length-map now (λ (r : RouteValue). r.net))) lt_now in
    let at : net ≡ get_or all i net =
    ap (λ (r : RouteValue). r.net) c.index-before-index.is ∙ sym (get_or-map (λ (r : RouteValue). r.net) before i one net lt) in
    let at_now : net ≡ get_or all_now i net =
    same ∙ ap (λ (r : RouteValue). r.net) c.index-now-index.is ∙ sym (get_or-map (λ (r : RouteValue). r.net) now i other net lt_now) in
    let fronts : take (i + 1) all ≡ take (i + 1) all_now =
    take_more all i net in_all ∙ ap (λ (ns : List Net). ns ++ get_or all i net ∷ []) c.loop-index.invariant.2
    ∙ ap (λ (n : Net). take i all_now ++ n ∷ []) (sym at ∙ at_now) ∙ sym (take_more all_now i net in_now) in
    let old = string_bytes c.loop-index.lines in
    let new = string_bytes c.push_changed.new.lines in
    let added = c.in_ok-push_changed.field-0 in
    let adds : AddsLine (change_at before now net) old added new =
    subst (λ o. AddsLine (change (route_to before net) o) old added new) by_now
    (subst (λ o. AddsLine (change o (Some other)) old added new) by_before c.in_ok-push_changed.ensures) in (
      lines_are (change_at before now) all i net in_all at old new added adds c.loop-index.invariant.0,
      elim c.if-branch.branch [
        | then-branch w ↦
            let t = w.if-branch in
            w.count-is ∙ count_added (change_at before now) all i net in_all at old new added adds c.loop-index.count t.true c.loop-index.invariant.1
        | else-branch w ↦
            let t = w.if-branch in
            w.count-is ∙ count_same (change_at before now) all i net in_all at old new added adds c.loop-index.count t.false c.loop-index.invariant.1
      ],
      fronts,
    )

pub returns : goal.returns
returns g c =
    let before = c.args.before.now in
    let now = c.args.now.now in
    let i = c.loop-index.index in
    let count = length-map before (λ (r : RouteValue). r.net) in
    let count_now = length-map now (λ (r : RouteValue). r.net) in
    let done : length (nets before) ≤ i = omega (arith, c.loop-index-test.false, count) in
    let done_now : length (nets now) ≤ i = omega (arith, c.loop-index-test.false, count_now, c.if-before-now.false) in
    let same : nets before ≡ nets now = sym (take_all i (nets before) done) ∙ c.loop-index.invariant.2 ∙ take_all i (nets now) done_now in
    let all = take_all i (nets before) done ∙ same_nets before now c.requires.before same in (
      c.loop-index.invariant.0 ∙ ap (λ ns. lines_text (filter_map (change_at before now) ns)) all,
      c.loop-index.invariant.1 ∙ ap (λ ns. length (filter_map (change_at before now) ns)) all,
    )
