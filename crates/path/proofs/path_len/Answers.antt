-- `path::path_len` meets its contract: by the length of the text. Assumes nothing.
use Rattle.std.proofs.Common.{arith}
use Rattle.path.specs.PathLaws.{path-most}
use Rattle.path.specs.PathWriting.{path-size}
use Rattle.path.proofs.path_len.Goals as goal

pub overflow_sub-n : goal.overflow_sub-n
overflow_sub-n c = omega (arith, (path-size c.args.t.now c.requires c.root_at-k.ensures).text)

pub overflow_add-n : goal.overflow_add-n
overflow_add-n c = let s = (path-size c.args.t.now c.requires c.root_at-k.ensures) in omega (arith, s.text, s.most)

pub overflow_mul-result : goal.overflow_mul-result
overflow_mul-result c = omega (arith, (path-size c.args.t.now c.requires c.root_at-k.ensures).most)

pub overflow_add-result : goal.overflow_add-result
overflow_add-result c =
    let s = (path-size c.args.t.now c.requires c.root_at-k.ensures) in omega (arith, c.count_len.ensures, s.bytes, path-most c.args.t.now, s.text, s.most, s.root)

pub overflow_add-result-2 : goal.overflow_add-result-2
overflow_add-result-2 c =
    let s = (path-size c.args.t.now c.requires c.root_at-k.ensures) in omega (arith, c.count_len.ensures, s.bytes, path-most c.args.t.now, s.text, s.most, s.root)

pub returns : goal.returns
returns c = omega (arith, c.count_len.ensures, (path-size c.args.t.now c.requires c.root_at-k.ensures).bytes)
