use Rattle.std.proofs.Common.{◌≡◌, ◌+◌, ◌≤◌, ◌++◌, length, drop}
use Rattle.std.specs.Prelude.{vec_len, vec_capacity}
use Rattle.std.specs.List.{flat_map}
use Rattle.mmt_cast.specs.SentTables.{extended_of_mpu}
use Rattle.mmt_mpt.specs.Descriptor.{descriptor_bytes}
use Rattle.mmt_signals.specs.Named.{named}
use Rattle.mmt_signals.proofs.named.put_all_extended.Given as goal

abbrev pub invariant-loop-name : goal.invariant-loop-name
invariant-loop-name l = record {
  items : l.out.items ++ flat_map descriptor_bytes (flat_map extended_of_mpu (named l.asset (drop l.name-index l.names))) ≡ l.fn.out.items ++ flat_map descriptor_bytes (flat_map extended_of_mpu (named l.asset l.names));
  len : vec_len l.out + length (flat_map descriptor_bytes (flat_map extended_of_mpu (named l.asset (drop l.name-index l.names)))) ≡ vec_len l.fn.out + length (flat_map descriptor_bytes (flat_map extended_of_mpu (named l.asset l.names)));
  capacity : vec_capacity l.fn.out ≤ vec_capacity l.out;
}
