-- LSAs that take the places of others: whether a database has a place for each.
use Rattle.std.specs.Prelude.{ℕ, ◌==◌, ◌&&◌, ◌||◌, not, nat_le, Bool, true, false, List, [], ◌∷◌, length, Option, Some, None}
use Rattle.std.specs.List.{list_any, list_all}
use Rattle.lsa_codec.specs.Fields.{kind_of}
use Rattle.lsa_codec.specs.Key.{key_of}
use Rattle.lsdb.specs.Lists.{Lists, lsas_of, has_key, same_key}
use Rattle.event_lsas.specs.Outcomes.{is_accepted}
use Rattle.edit_history.specs.Rules.{Change}

-- ---- one LSA in the place of another

-- it is accepted and no longer, and has the LS type of the other
abbrev pub is_like : List ℕ → List ℕ → Bool
is_like old new = is_accepted new && (nat_le (length new) (length old) && (kind_of new == kind_of old))

-- it has the key of the other, or one that no LSA of the section has
abbrev pub has_free_key : List (List ℕ) → List ℕ → List ℕ → Bool
has_free_key lsas old new = same_key (key_of new) (key_of old) || not (list_any (has_key (key_of new)) lsas)

-- a section of these LSAs has a place for what a change brings
abbrev pub has_place : List (List ℕ) → Option (List ℕ) → Option (List ℕ) → Bool
has_place lsas old None = true
has_place lsas None (Some new) = true
has_place lsas (Some old) (Some new) = is_like old new && has_free_key lsas old new

abbrev pub fits : Lists → Change → Bool
fits db c = has_place (lsas_of c.section db) c.old c.new

-- ---- several changes

-- the LSA that a change brings has another key than the one before
abbrev pub is_rekeyed : Option (List ℕ) → Option (List ℕ) → Bool
is_rekeyed old None = false
is_rekeyed None (Some new) = false
is_rekeyed (Some old) (Some new) = not (same_key (key_of new) (key_of old))

-- two LSAs have one key
abbrev pub share_key : Option (List ℕ) → Option (List ℕ) → Bool
share_key one None = false
share_key None (Some other) = false
share_key (Some one) (Some other) = has_key (key_of other) one

-- no change brings a key that a change before it gave an LSA
abbrev pub are_apart : List Change → Bool
are_apart [] = true
are_apart (c ∷ cs) = not (is_rekeyed c.old c.new && list_any (λ (later : Change). share_key c.new later.new) cs) && are_apart cs

-- a database has a place for all that changes bring
abbrev pub all_fit : Lists → List Change → Bool
all_fit db cs = list_all (fits db) cs && are_apart cs
