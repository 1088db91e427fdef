use Rattle.std.proofs.Common.{◌≡◌, length}
use Rattle.std.specs.Iterator.Adapters.{zip_first, zip_second}
use Rattle.std.specs.Slice.Iter.{iter_rest}
use Rattle.putting.proofs.Laying.{Left}
use Rattle.writer.specs.inner.Rows.{pairs_bytes}
use Rattle.writer.proofs.nodes.put_point.Given as goal

abbrev pub invariant-loop-m : goal.invariant-loop-m
invariant-loop-m l =
    let ms = iter_rest (zip_first l.m-iterator) in
    let es = iter_rest (zip_second l.m-iterator) in
    record {
      same : length ms ≡ length es;
      laying : Left l.initial.out l.at (pairs_bytes 10 l.d l.ms l.es) l.out l.c (pairs_bytes l.b (length ms) ms es);
    }
