-- The command line, computed on given words.
use Rattle.std.proofs.Common.{◌≡◌, Bool, true, false, List, [], ◌∷◌, Option, Some, None, codes, refl}
use Rattle.clap.specs.Words.{Kinds, Text, first_of, one_of}
use Rattle.clap.specs.Takes.{is_given}
use Rattle.clap.specs.declared.error.kind.ErrorKind.TheVariants as kind
use Rattle.clap.proofs.OnLiterals.{clap_on_literals}
use Rattle.command_line.specs.Line.{given, line_fault, values}

-- the flags, the files and the text of the number that these words give, and why they are refused
record Row : Type 0 where
  library : Bool
  stop : Bool
  lines : Bool
  explain : Bool
  profile : Bool
  interactive : Bool
  pretty : Bool
  explain_json : Bool
  check : Bool
  file : Option Text
  steps : Option Text
  modules : List Text
  trees : List Text
  writes : List Text
  fault : Kinds

abbrev row : List Text → Row
row words = record {
  library = is_given (codes "library") (given words);
  stop = is_given (codes "stop") (given words);
  lines = is_given (codes "lines") (given words);
  explain = is_given (codes "explain") (given words);
  profile = is_given (codes "profile") (given words);
  interactive = is_given (codes "interactive") (given words);
  pretty = is_given (codes "pretty") (given words);
  explain_json = is_given (codes "explain-json") (given words);
  check = is_given (codes "check") (given words);
  file = first_of (codes "file") (given words);
  steps = one_of (codes "steps") (given words);
  modules = values (codes "module") (given words);
  trees = values (codes "tree") (given words);
  writes = values (codes "write") (given words);
  fault = line_fault words;
}

pub nothing : row (codes "stratbench" ∷ [])
    ≡ record {
      library = false;
      stop = false;
      lines = false;
      explain = false;
      profile = false;
      interactive = false;
      pretty = false;
      explain_json = false;
      check = false;
      file = None;
      steps = Some (codes "100000");
      modules = [];
      trees = [];
      writes = [];
      fault = [];
    }
unfolding clap_on_literals
nothing = refl

pub all : row
    (codes "stratbench" ∷ codes "--steps=7" ∷ codes "a" ∷ codes "--lines" ∷ codes "--explain" ∷ codes "--explain-json"
    ∷ codes "--check" ∷ codes "--profile" ∷ codes "--stop" ∷ codes "--library" ∷ codes "-i" ∷ [])
    ≡ record {
      library = true;
      stop = true;
      lines = true;
      explain = true;
      profile = true;
      interactive = true;
      pretty = false;
      explain_json = true;
      check = true;
      file = Some (codes "a");
      steps = Some (codes "7");
      modules = [];
      trees = [];
      writes = [];
      fault = [];
    }
unfolding clap_on_literals
all = refl

pub files : row (codes "stratbench" ∷ codes "--tree=t=a" ∷ codes "--module" ∷ codes "m=b" ∷ codes "--tree" ∷ codes "u="
    ∷ codes "--write=t=c" ∷ codes "--pretty" ∷ [])
    ≡ record {
      library = false;
      stop = false;
      lines = false;
      explain = false;
      profile = false;
      interactive = false;
      pretty = true;
      explain_json = false;
      check = false;
      file = None;
      steps = Some (codes "100000");
      modules = codes "m=b" ∷ [];
      trees = codes "t=a" ∷ codes "u=" ∷ [];
      writes = codes "t=c" ∷ [];
      fault = [];
    }
unfolding clap_on_literals
files = refl

pub after_dashes : row (codes "stratbench" ∷ codes "--steps" ∷ codes "1" ∷ codes "--" ∷ codes "--stop" ∷ [])
    ≡ record {
      library = false;
      stop = false;
      lines = false;
      explain = false;
      profile = false;
      interactive = false;
      pretty = false;
      explain_json = false;
      check = false;
      file = Some (codes "--stop");
      steps = Some (codes "1");
      modules = [];
      trees = [];
      writes = [];
      fault = [];
    }
unfolding clap_on_literals
after_dashes = refl

pub two_files : line_fault (codes "stratbench" ∷ codes "a" ∷ codes "b" ∷ []) ≡ kind.UnknownArgument ∷ []
unfolding clap_on_literals
two_files = refl

pub no_steps : line_fault (codes "stratbench" ∷ codes "--steps" ∷ codes "0" ∷ []) ≡ kind.ValueValidation ∷ []
unfolding clap_on_literals
no_steps = refl

pub no_equals : line_fault (codes "stratbench" ∷ codes "--tree" ∷ codes "t" ∷ []) ≡ kind.ValueValidation ∷ []
unfolding clap_on_literals
no_equals = refl

pub no_name : line_fault (codes "stratbench" ∷ codes "--write" ∷ codes "9=t" ∷ []) ≡ kind.ValueValidation ∷ []
unfolding clap_on_literals
no_name = refl

pub version : line_fault (codes "stratbench" ∷ codes "-V" ∷ []) ≡ kind.DisplayVersion ∷ []
unfolding clap_on_literals
version = refl
