use Rattle.std.proofs.Common.{rules}
use Rattle.tables.specs.Borrowed.{held}
use Rattle.case_list.proofs.table_parts.TableParts.open.Goals as goal

pub returns : goal.returns
returns c = record { lists = held c.lend.result; spelled = search rules; told = search rules }
