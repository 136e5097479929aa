-- The words of refusals and the numbers behind them, which are this project's own: the same wherever a refusal is told.
use Rattle.std.specs.Prelude.{ℕ, List, ◌++◌, codes, decimal}
use Rattle.mmt_hear.specs.declared.why.Why.{Why}
use Rattle.mmt_hear.specs.declared.why.Why.TheVariants as why
use Rattle.mmt_mpu.specs.declared.types.MpuWhy.{MpuWhy}
use Rattle.mmt_mpu.specs.declared.types.MpuWhy.TheVariants as mpu
use Rattle.mmt_sig.specs.declared.head.SigWhy.{SigWhy}
use Rattle.mmt_sig.specs.declared.head.SigWhy.TheVariants as sig
use Rattle.mmt_sig.specs.declared.message.MessageWhy.{MessageWhy}
use Rattle.mmt_sig.specs.declared.message.MessageWhy.TheVariants as messages
use Rattle.mmt_mpt.specs.declared.mpt_why.MptWhy.{MptWhy}
use Rattle.mmt_mpt.specs.declared.mpt_why.MptWhy.TheVariants as mpt
use Rattle.mmt_times.specs.declared.times_why.TimesWhy.{TimesWhy}
use Rattle.mmt_times.specs.declared.times_why.TimesWhy.TheVariants as times

-- a packet that is not heard (this project's own words)
unfoldable pub why_words : Why → List ℕ
why_words why.Ip4 = codes "ip4"
why_words (why.TlvKind n) = codes "tlv-kind " ++ decimal n
why_words why.IpShort = codes "ip-short"
why_words (why.IpVersion n) = codes "ip-version " ++ decimal n
why_words (why.IpNext n) = codes "ip-next " ++ decimal n
why_words why.IpLength = codes "ip-length"
why_words why.IpChecksum = codes "ip-checksum"
why_words why.CtxShort = codes "ctx-short"
why_words (why.CtxKind n) = codes "ctx-kind " ++ decimal n
why_words (why.CtxNone n) = codes "ctx-none " ++ decimal n
why_words why.MmtpShort = codes "mmtp-short"
why_words (why.MmtpVersion n) = codes "mmtp-version " ++ decimal n
why_words (why.MmtpFec n) = codes "mmtp-fec " ++ decimal n
why_words (why.MmtpKind n) = codes "mmtp-kind " ++ decimal n
why_words why.Scrambled = codes "scrambled"

-- a payload that is no MPU payload (this project's own words)
unfoldable pub mpu_words : MpuWhy → List ℕ
mpu_words mpu.Short = codes "mpu-short"
mpu_words mpu.Length = codes "mpu-length"
mpu_words (mpu.Metadata n) = codes "mpu-metadata " ++ decimal n
mpu_words (mpu.FragmentType n) = codes "mpu-type " ++ decimal n
mpu_words mpu.AggregatedPart = codes "mpu-aggregated-part"
mpu_words mpu.Overrun = codes "mpu-overrun"

-- a payload that is no signalling payload (this project's own word)
unfoldable pub sig_word : SigWhy → List ℕ
sig_word sig.Short = codes "sig-short"
sig_word sig.AggregatedPart = codes "sig-aggregated-part"
sig_word sig.Overrun = codes "sig-overrun"

-- bytes that are no signalling message (this project's own word)
unfoldable pub message_word : MessageWhy → List ℕ
message_word messages.Short = codes "message-short"
message_word messages.Length = codes "message-length"
message_word messages.HrbmValues = codes "hrbm-values"

-- bytes that are no MPT, without the number of an asset or of a location's type (this project's own word)
unfoldable pub mpt_word : MptWhy → List ℕ
mpt_word mpt.Short = codes "mpt-short"
mpt_word mpt.Length = codes "mpt-length"
mpt_word (mpt.ClockRelation asset) = codes "mpt-clock"
mpt_word (mpt.LocationKind kind) = codes "mpt-location"

-- a timestamp descriptor, or an MPU's entry in one, that counts as absent (this project's own word)
unfoldable pub times_word : TimesWhy → List ℕ
times_word times.Length = codes "times-length"
times_word times.OffsetType = codes "times-offset-type"
times_word times.TimescaleZero = codes "times-timescale"
times_word times.Range = codes "times-range"
