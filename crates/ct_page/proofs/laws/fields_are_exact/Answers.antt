use Rattle.ct_page.proofs.Numbers.{u16_at-with_u16, u64_at-with_u64, u16_at-with_u16_apart, u64_at-with_u16_apart, u16_at-with_u64_apart, u64_at-with_u64_apart, length-with_u16, length-with_u64}
use Rattle.ct_page.proofs.laws.fields_are_exact.Goals as goal

pub returns-clause-short : goal.returns-clause-short
returns-clause-short c = u16_at-with_u16

pub returns-clause-long : goal.returns-clause-long
returns-clause-long c = u64_at-with_u64

pub returns-clause-short_beside_short : goal.returns-clause-short_beside_short
returns-clause-short_beside_short c = u16_at-with_u16_apart

pub returns-clause-long_beside_short : goal.returns-clause-long_beside_short
returns-clause-long_beside_short c = u64_at-with_u16_apart

pub returns-clause-short_beside_long : goal.returns-clause-short_beside_long
returns-clause-short_beside_long c = u16_at-with_u64_apart

pub returns-clause-long_beside_long : goal.returns-clause-long_beside_long
returns-clause-long_beside_long c = u64_at-with_u64_apart

pub returns-clause-len_short : goal.returns-clause-len_short
returns-clause-len_short c = length-with_u16

pub returns-clause-len_long : goal.returns-clause-len_long
returns-clause-len_long c = length-with_u64
