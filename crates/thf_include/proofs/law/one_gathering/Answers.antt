use Rattle.std.proofs.Common.{[]}
use Rattle.thf_include.proofs.OneEnding.{one-file}
use Rattle.thf_include.proofs.law.one_gathering.Goals as goal

pub returns : goal.returns
returns c = λ texts name names others one other h k. let same = one-file texts [] 0 name names one h others other k in (same.names, same.endings)
