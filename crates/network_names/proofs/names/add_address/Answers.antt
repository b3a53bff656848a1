use Rattle.std.specs.Ordering.{nat_cmp}
use Rattle.std.specs.Cmp.Lexicographic.{slice_cmp}
use Rattle.std.specs.BTreeMap.{get_by}
use Rattle.std.proofs.lemmas.Map.Text.{btree_map_updates_str}
use Rattle.network_names.proofs.OneMore.{address_added}
use Rattle.network_names.proofs.names.add_address.Goals as goal

pub returns : goal.returns
returns g c = λ all before absent.
    address_added all c.args.name.now c.args.address
    (λ word. get_by (λ name. slice_cmp nat_cmp word name.now) c.args.addresses.now)
    (λ word. get_by (λ name. slice_cmp nat_cmp word name.now) c.insert.new.self)
    before absent
    (btree_map_updates_str c.args.name.now c.args.addresses.now c.insert.new.self _ c.in_ok-insert.ensures.updates)
