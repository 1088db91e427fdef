use Rattle.putting.proofs.Counting.{count_first}
use Rattle.putting.proofs.number.decimal_count.Goals as goal

pub returns-then-n-lt10 : goal.returns-then-n-lt10
returns-then-n-lt10 c = count_first _ c.if-n-lt10.true
