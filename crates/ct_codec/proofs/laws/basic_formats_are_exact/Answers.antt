use Rattle.ct_codec.proofs.Exact.{byte-exact, number16-exact, number32-exact, number64-exact, flag-exact, block-exact, sized8-exact, sized32-exact}
use Rattle.ct_codec.proofs.laws.basic_formats_are_exact.Goals as goal

pub returns : goal.returns
returns c = record {
  byte = byte-exact;
  number16 = number16-exact;
  number32 = number32-exact;
  number64 = number64-exact;
  flag = flag-exact;
  block = block-exact;
  sized8 = sized8-exact;
  sized32 = sized32-exact;
}
