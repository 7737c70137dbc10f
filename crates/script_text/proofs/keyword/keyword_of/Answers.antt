use Rattle.std.proofs.Common.{rules, ap, codes, arith}
use Rattle.script_text.specs.Form.{takes_no_memory_with}
use Rattle.script_text.specs.KeywordView.{keyword_at}
use Rattle.script_text.proofs.KeywordLemmas.{same_bytes}
use Rattle.script_text.proofs.keyword.keyword_of.Goals as goal

pub returns-in-apply-clause-keyword : goal.returns-in-apply-clause-keyword
returns-in-apply-clause-keyword c =
    ap keyword_at (same_bytes (codes "apply") c.args.word.now (omega arith) (search rules))

pub returns-in-begin-clause-keyword : goal.returns-in-begin-clause-keyword
returns-in-begin-clause-keyword c =
    ap keyword_at (same_bytes (codes "begin") c.args.word.now (omega arith) (search rules))

pub returns-in-trees-clause-keyword : goal.returns-in-trees-clause-keyword
returns-in-trees-clause-keyword c =
    ap keyword_at (same_bytes (codes "trees") c.args.word.now (omega arith) (search rules))

pub returns-in-module-clause-keyword : goal.returns-in-module-clause-keyword
returns-in-module-clause-keyword c =
    ap keyword_at (same_bytes (codes "module") c.args.word.now (omega arith) (search rules))

pub returns-in-unload-clause-keyword : goal.returns-in-unload-clause-keyword
returns-in-unload-clause-keyword c =
    ap keyword_at (same_bytes (codes "unload") c.args.word.now (omega arith) (search rules))

pub returns-in-commit-clause-keyword : goal.returns-in-commit-clause-keyword
returns-in-commit-clause-keyword c =
    ap keyword_at (same_bytes (codes "commit") c.args.word.now (omega arith) (search rules))

pub returns-in-preview-clause-keyword : goal.returns-in-preview-clause-keyword
returns-in-preview-clause-keyword c =
    ap keyword_at (same_bytes (codes "preview") c.args.word.now (omega arith) (search rules))

pub returns-in-pretty-clause-keyword : goal.returns-in-pretty-clause-keyword
returns-in-pretty-clause-keyword c =
    ap keyword_at (same_bytes (codes "pretty") c.args.word.now (omega arith) (search rules))

pub returns-in-diff-clause-keyword : goal.returns-in-diff-clause-keyword
returns-in-diff-clause-keyword c =
    ap keyword_at (same_bytes (codes "diff") c.args.word.now (omega arith) (search rules))

pub returns-in-abandon-clause-keyword : goal.returns-in-abandon-clause-keyword
returns-in-abandon-clause-keyword c =
    ap keyword_at (same_bytes (codes "abandon") c.args.word.now (omega arith) (search rules))

pub returns-in-modules-clause-keyword : goal.returns-in-modules-clause-keyword
returns-in-modules-clause-keyword c =
    ap keyword_at (same_bytes (codes "modules") c.args.word.now (omega arith) (search rules))

pub returns-in-history-clause-keyword : goal.returns-in-history-clause-keyword
returns-in-history-clause-keyword c =
    ap keyword_at (same_bytes (codes "history") c.args.word.now (omega arith) (search rules))

pub returns-in-annotate-clause-keyword : goal.returns-in-annotate-clause-keyword
returns-in-annotate-clause-keyword c =
    ap keyword_at (same_bytes (codes "annotate") c.args.word.now (omega arith) (search rules))

pub returns-in-begin-clause-without_memory : goal.returns-in-begin-clause-without_memory
returns-in-begin-clause-without_memory c =
    ap takes_no_memory_with (same_bytes (codes "begin") c.args.word.now (omega arith) (search rules))

pub returns-in-abandon-clause-without_memory : goal.returns-in-abandon-clause-without_memory
returns-in-abandon-clause-without_memory c =
    ap takes_no_memory_with (same_bytes (codes "abandon") c.args.word.now (omega arith) (search rules))
