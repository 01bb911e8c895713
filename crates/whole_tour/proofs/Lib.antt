mod Carried
mod Listed
