-- What the values of the words of `osc store` stand for.
use Rattle.std.specs.Prelude.{◌≡◌, List, Some, codes}
use Rattle.clap.specs.Words.{Row}
use Rattle.osc_words.specs.NamedOptions.{value_of}
use Rattle.osc_words.specs.Options.{is_set}
use Rattle.osc_words.specs.declared.named_option.NamedOption.TheVariants.{StoreBackup, StoreFile}
use Rattle.osc_words.specs.declared.store_words.StoreWords.{StoreWords}

pub record AreStoreWords (rows : List Row) (words : StoreWords) : Type 0 where
  pub file : value_of StoreFile rows ≡ Some words.file
  pub dump : words.dump ≡ is_set (codes "dump") rows
  pub until_damage : words.until_damage ≡ is_set (codes "until-damage") rows
  pub backup : words.backup ≡ value_of StoreBackup rows
