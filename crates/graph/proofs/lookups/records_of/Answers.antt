use Rattle.std.proofs.Common.{leb, ltb, rules}
use Rattle.std.proofs.lemmas.List.{take_rest}
use Rattle.std.proofs.lemmas.List.Sorted.{IsPartitionPoint-from_clause, IsPartitionedBy-leb, IsPartitionedBy-ltb}
use Rattle.graph.proofs.Rising.{rises, rising_drop, run_of}
use Rattle.graph.proofs.lookups.records_of.Goals as goal

pub returns : goal.returns
returns g c = λ up.
    let owner = g.T.Owned.belongs in
    let xs = c.args.records.now in
    let m = c.args.m in
    let from = c.partition_point-from.result in
    let is = take_rest xs from in
    let before = IsPartitionPoint-from_clause (λ x. ltb (owner x) m) xs from c.partition_point-from.ensures.partitioned (IsPartitionedBy-ltb owner xs m (rises owner xs up)) (λ a r q k. search rules) in
    let own = IsPartitionPoint-from_clause (λ x. leb (owner x) m) _ c.partition_point-to.result c.partition_point-to.ensures.partitioned (IsPartitionedBy-leb owner _ m (rises owner _ (rw is (rising_drop owner from xs up)))) (λ a r q k. search rules) in
    run_of owner m from c.partition_point-to.result xs _ is c.partition_point-from.ensures.bound c.partition_point-to.ensures.bound before own
