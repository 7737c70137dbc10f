-- A parsed command, as its form.
use Rattle.script_text.specs.Form as f
use Rattle.script_text.specs.declared.command.Command.{Command}
use Rattle.script_text.specs.declared.command.Command.TheVariants.{Tree, Copy, Drop, Put, Annotate, Module, Unload, Apply, Preview, Undo, Redo, Begin, Commit, Abandon, Show, Pretty, Diff, Trees, Modules, Text, History, Dump}

abbrev pub form : Command → f.Form
form (Tree name text) = f.tree name text.now
form (Copy name other) = f.copy name other
form (Drop name) = f.drop_tree name
form (Put name path text) = f.put name path text.now
form (Annotate name path text) = f.annotate name path text.now
form (Module name text) = f.set_module name text.now
form (Unload name) = f.unload name
form (Apply name path budget text) = f.apply name path budget text.now
form (Preview name path budget text) = f.preview name path budget text.now
form (Undo n) = f.undo n
form (Redo n) = f.redo n
form Begin = f.begin
form Commit = f.commit
form Abandon = f.abandon
form (Show name path) = f.show name path
form (Pretty name path) = f.pretty name path
form (Diff name) = f.diff name
form Trees = f.trees
form Modules = f.modules
form (Text name) = f.module_text name
form History = f.history
form Dump = f.dump
