-- The tables of routers, one router after another.
use Rattle.std.proofs.Common.{◌≡◌, ◌≢◌, ℕ, suc, ◌+◌, ◌<◌, ◌≤◌, List, [], ◌∷◌, ◌++◌, take, get_or, length, Option, None, Some, Result, Ok, Err, IfOk, Vec, refl, sym, ap, subst, ◌∙◌}
use Rattle.std.specs.Prelude.{flat_map, option_to_list, codes, decimal}
use Rattle.std.specs.List.{Contains, filter_map, cons_option}
use Rattle.std.proofs.lemmas.List.{append_assoc, append-nil, take_more, take_all}
use Rattle.std.proofs.lemmas.List.Elements.{Contains-append_left, Contains-append_right, Contains-push, filter_map-append}
use Rattle.lsa_codec.specs.declared.address.RouterId.{RouterId}
use Rattle.lsdb.specs.Lists.{AreaHead, Lists}
use Rattle.area_routes.specs.Attached.{attached_areas}
use Rattle.routing_table.specs.Routers.{attached_routers}
use Rattle.routing_table.specs.Tables.{TableValue, table_by, table_in}
use Rattle.table_report.specs.Texts.{table_text}
use Rattle.edit_history.specs.Session.{Session, state}
use Rattle.edit_script.specs.declared.command.Command.TheVariants as command
use Rattle.branches.specs.Replies.{mark_of, reply_text, reply_to, router_text, router_texts, tables, tables_head}

as_list : {Y : Type 0} (o : Option Y) → option_to_list o ≡ cons_option o []
as_list None = refl
as_list (Some y) = refl

pub one_more : {X Y : Type 0} (f : X → Option Y) (xs : List X) (i : ℕ) (d : X) (old new : List Y) (o : Option Y)
    → i < length xs → old ≡ filter_map f (take i xs)
    → o ≡ f (get_or xs i d) → new ≡ old ++ option_to_list o → new ≡ filter_map f (take (i + 1) xs)
one_more f xs i d old new o lt before found is =
    is ∙ ap (λ l. l ++ option_to_list o) before ∙ ap (λ p. filter_map f (take i xs) ++ p) (as_list o ∙ ap (λ p. cons_option p []) found)
    ∙ sym (filter_map-append f (take i xs) (get_or xs i d ∷ [])) ∙ ap (filter_map f) (sym (take_more xs i d lt))

pub all_taken : {X Y : Type 0} (f : X → Option Y) (xs : List X) (i : ℕ) (ys : List Y) → length xs ≤ i → ys ≡ filter_map f (take i xs) → ys ≡ filter_map f xs
all_taken f xs i ys past is = is ∙ ap (filter_map f) (take_all i xs past)

-- ---- the number of tables

-- a router that is attached to an area has a table
has_table : (db : Lists) (router : RouterId) (areas : List AreaHead) (rest : List TableValue) → areas ≢ []
    → length (cons_option (table_by db router areas) rest) ≡ suc (length rest)
has_table db router [] rest some = absurd (some refl)
has_table db router (area ∷ areas) rest some = refl

-- the number of tables is the number of routers, where each is attached to an area
pub all_have : (db : Lists) (rs : List RouterId) → ((r : RouterId) → Contains rs r → attached_areas db r ≢ [])
    → length (filter_map (table_in db) rs) ≡ length rs
unfolding table_in
all_have db [] each = refl
all_have db (r ∷ rs) each =
    has_table db r (attached_areas db r) (filter_map (table_in db) rs) (each r (Contains-append_left (r ∷ []) rs r (Contains-push [] r)))
    ∙ ap suc (all_have db rs (λ x there. each x (Contains-append_right (r ∷ []) rs x there)))

-- the routers of a database, as they are found
pub count_found : {A E : Type 0} (db : Lists) (r : Result (Vec RouterId A) E)
    → ((x : RouterId) → Contains (attached_routers db) x → attached_areas db x ≢ [])
    → IfOk r (λ found. found.items ≡ attached_routers db) → IfOk r (λ found. length (filter_map (table_in db) found.items) ≡ length found.items)
count_found db (Ok found) each is = subst (λ l. length (filter_map (table_in db) l) ≡ length l) (sym is) (all_have db (attached_routers db) each)
count_found db (Err e) each is = tt

-- ---- the reply to `tables`, by its parts

one_text : (o : Option TableValue) (rest : List TableValue)
    → flat_map table_text (option_to_list o) ++ flat_map table_text rest ≡ flat_map table_text (cons_option o rest)
one_text None rest = refl
one_text (Some t) rest = ap (λ l. l ++ flat_map table_text rest) (append-nil (table_text t))

each_text : (db : Lists) (rs : List RouterId) → router_texts db rs ≡ flat_map table_text (filter_map (table_in db) rs)
each_text db [] = refl
each_text db (r ∷ rs) = ap (λ l. router_text db r ++ l) (each_text db rs) ∙ one_text (table_in db r) (filter_map (table_in db) rs)

by_parts : (branch : ℕ) (s : Session) (rs : List RouterId) → rs ≡ attached_routers (state s) → length (filter_map (table_in (state s)) rs) ≡ length rs
    → reply_text branch (reply_to s command.Tables) ≡ tables_head branch (length rs) ++ router_texts (state s) rs
by_parts branch s rs is count =
    ap (λ l. reply_text branch (tables (filter_map (table_in (state s)) l))) (sym is)
    ∙ ap (λ n. mark_of branch ++ (codes "tables " ++ decimal n ++ codes "\n" ++ flat_map table_text (filter_map (table_in (state s)) rs))) count
    ∙ ap (λ l. mark_of branch ++ (codes "tables " ++ decimal (length rs) ++ codes "\n" ++ l)) (sym (each_text (state s) rs))
    ∙ sym (append_assoc (mark_of branch) (codes "tables " ++ decimal (length rs) ++ codes "\n") (router_texts (state s) rs))

-- the routers of the database of a session, as they are found
pub found_parts : {A E : Type 0} (branch : ℕ) (s : Session) (db : Lists) (r : Result (Vec RouterId A) E) → db ≡ state s
    → IfOk r (λ found. found.items ≡ attached_routers db) → IfOk r (λ found. length (filter_map (table_in db) found.items) ≡ length found.items)
    → IfOk r (λ found. reply_text branch (reply_to s command.Tables) ≡ tables_head branch (length found.items) ++ router_texts (state s) found.items)
found_parts branch s db (Ok found) at is count =
    by_parts branch s found.items (is ∙ ap attached_routers at)
    (subst (λ d. length (filter_map (table_in d) found.items) ≡ length found.items) at count)
found_parts branch s db (Err e) at is count = tt
