use Rattle.std.proofs.Common.{◌∙◌, sym, rules, tests}
use Rattle.std.proofs.lemmas.Iterator.Search.{any_from_yields_List}
use Rattle.std.proofs.lemmas.Iterator.Splits.{YieldsList-from_slice_split}
use Rattle.frr_text.specs.Words.{words}
use Rattle.lsdb_listing.specs.Lines.{is_line_feed}
use Rattle.lsdb_listing.specs.Sorting.{is_detail}
use Rattle.lsdb_listing.proofs.ParsedLines.{any_line}
use Rattle.lsdb_listing.proofs.list.has_detail.Goals as goal

pub returns : goal.returns
returns c =
    any_from_yields_List (λ line. is_detail (words line)) _ _ c.any.result c.any.ensures.ran
    (YieldsList-from_slice_split _ is_line_feed c.args.text.now c.split.ensures.rest c.split.ensures.done c.split.ensures.closure
    (λ x b q k. search (rules, tests)))
    (λ x b q k. search (rules, tests))
    ∙ sym (any_line is_detail c.args.text.now)
