use Rattle.std.proofs.Common.{◌∙◌, sym, true≢false}
use Rattle.std.proofs.lemmas.Bool.{eqb-true, eq-eqb}
use Rattle.std.proofs.lemmas.Result.{err_from_is_err_and}
use Rattle.lsdb.specs.Slots.{lists_of}
use Rattle.routing_table.proofs.Tabled.{table_is, no_table, no_memory, some_results, empty_list, full_list}
use Rattle.routing_table.proofs.table.table_from.Goals as goal

pub returns-then-is_empty-clause-fault : goal.returns-then-is_empty-clause-fault
returns-then-is_empty-clause-fault g c =
    no_table (lists_of c.args.database.now) c.args.router c.args.results.items c.requires.results
    (empty_list c.args.results.items (sym c.args.results.ok.0 ∙ eqb-true c.args.results.len 0 (sym c.is_empty.ensures ∙ c.if-is_empty.true)))

pub returns-in_err-list_externals-clause-fault : goal.returns-in_err-list_externals-clause-fault
returns-in_err-list_externals-clause-fault g c =
    let gave = err_from_is_err_and c.from_residual.result c.from_residual.ensures.1 in
    rw (gave.1, gave.2) (no_memory (lists_of c.args.database.now) c.args.router
    (some_results (lists_of c.args.database.now) c.args.router c.args.results.items c.requires.results
    (full_list c.args.results.items (λ none. true≢false (sym (eq-eqb c.args.results.len 0 (c.args.results.ok.0 ∙ none)) ∙ (sym c.is_empty.ensures ∙ c.if-is_empty.false))))))

pub returns-in_err-routes-in-Some-clause-fault : goal.returns-in_err-routes-in-Some-clause-fault
returns-in_err-routes-in-Some-clause-fault g c =
    let gave = err_from_is_err_and c.from_residual-in_err-routes-in-Some.result c.from_residual-in_err-routes-in-Some.ensures.1 in
    rw (gave.1, gave.2) (no_memory (lists_of c.args.database.now) c.args.router
    (some_results (lists_of c.args.database.now) c.args.router c.args.results.items c.requires.results
    (full_list c.args.results.items (λ none. true≢false (sym (eq-eqb c.args.results.len 0 (c.args.results.ok.0 ∙ none)) ∙ (sym c.is_empty.ensures ∙ c.if-is_empty.false))))))

pub returns-clause-table : goal.returns-clause-table
returns-clause-table g c =
    table_is (lists_of c.args.database.now) c.args.router c.args.results.items c.in_ok-routes-in-Some.routes c.requires.results
    (full_list c.args.results.items (λ none. true≢false (sym (eq-eqb c.args.results.len 0 (c.args.results.ok.0 ∙ none)) ∙ (sym c.is_empty.ensures ∙ c.if-is_empty.false))))
    c.in_ok-routes-in-Some.ensures
