use Rattle.network_names.proofs.names.Names.add.Goals as goal

pub returns : goal.returns
returns g c = λ all before absent. record {
  addresses = c.in_ok-add_address.ensures all before.addresses absent;
  routers = c.in_ok-add_first_name.ensures all before.routers;
}
