use Rattle.snmp_walk.proofs.Printed.{alone_read, hex_read, string_read}
use Rattle.snmp_walk.proofs.laws.printed_bytes_are_read.Goals as goal

pub returns-clause-hex : goal.returns-clause-hex
returns-clause-hex c = hex_read

pub returns-clause-string : goal.returns-clause-string
returns-clause-string c = string_read

pub returns-clause-alone : goal.returns-clause-alone
returns-clause-alone c = alone_read
