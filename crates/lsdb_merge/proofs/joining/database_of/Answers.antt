use Rattle.std.proofs.Common.{◌≡◌, ◌≤◌, ◌<◌, ◌∙◌, inr, sym, ap, length, map, arith}
use Rattle.lsdb.specs.Limits.{longest_dump}
use Rattle.lsdb.specs.Lists.{IsDatabase, Lists, size}
use Rattle.lsdb.specs.Slots.{lists_of}
use Rattle.lsdb_merge.specs.Joining.{section}
use Rattle.lsdb_merge.proofs.Joined.{if_both, is_database, too_long}
use Rattle.lsdb_merge.proofs.joining.database_of.Goals as goal

pub returns-then-len-gt-LONGEST_DUMP-clause-fault : goal.returns-then-len-gt-LONGEST_DUMP-clause-fault
returns-then-len-gt-LONGEST_DUMP-clause-fault g c =
    let db : Lists = map (section c.args.areas.now c.args.newest.now) c.args.scopes.now in
    let same : length c.in_ok-text.text.items ≡ size db = ap length c.in_ok-text.ensures.text ∙ c.text_laws.ensures.length db in
    let long : longest_dump < size db = omega (arith, same, c.in_ok-text.text.ok, c.len.ensures, c.if-len-gt-LONGEST_DUMP.true) in
    inr (too_long c.args.areas.now c.args.newest.now c.args.scopes.now (sym c.any_misplaced.ensures.any ∙ c.if-any_misplaced.false)
    (omega (arith, c.from.ensures, c.if-from-scopes.false)) c.in_ok-text.ensures.few long)

pub loaded-requires : goal.loaded-requires
loaded-requires g c =
    let db : Lists = map (section c.args.areas.now c.args.newest.now) c.args.scopes.now in
    let same : length c.in_ok-text.text.items ≡ size db = ap length c.in_ok-text.ensures.text ∙ c.text_laws.ensures.length db in
    let short : size db ≤ longest_dump = omega (arith, same, c.in_ok-text.text.ok, c.len.ensures, c.if-len-gt-LONGEST_DUMP.false) in
    let whole : IsDatabase db =
    is_database c.args.areas.now c.args.newest.now c.args.scopes.now c.requires.scopes c.requires.wide c.requires.rising
    (c.any_misplaced.ensures.accepted c.if-any_misplaced.false) (sym c.any_misplaced.ensures.any ∙ c.if-any_misplaced.false)
    (omega (arith, c.from.ensures, c.if-from-scopes.false)) c.in_ok-text.ensures.few short in
    (db, whole, c.deref.ensures.value ∙ c.in_ok-text.ensures.text)

pub returns-clause-joined : goal.returns-clause-joined
returns-clause-joined g c =
    let db : Lists = map (section c.args.areas.now c.args.newest.now) c.args.scopes.now in
    let same : length c.in_ok-text.text.items ≡ size db = ap length c.in_ok-text.ensures.text ∙ c.text_laws.ensures.length db in
    let short : size db ≤ longest_dump = omega (arith, same, c.in_ok-text.text.ok, c.len.ensures, c.if-len-gt-LONGEST_DUMP.false) in
    let whole : IsDatabase db =
    is_database c.args.areas.now c.args.newest.now c.args.scopes.now c.requires.scopes c.requires.wide c.requires.rising
    (c.any_misplaced.ensures.accepted c.if-any_misplaced.false) (sym c.any_misplaced.ensures.any ∙ c.if-any_misplaced.false)
    (omega (arith, c.from.ensures, c.if-from-scopes.false)) c.in_ok-text.ensures.few short in
    if_both c.loaded.result _ _ _
    (λ d p q. c.text_laws.ensures.one_text (lists_of d) db p whole (sym q ∙ c.deref.ensures.value ∙ c.in_ok-text.ensures.text))
    c.loaded.ensures.database c.loaded.ensures.spelled
